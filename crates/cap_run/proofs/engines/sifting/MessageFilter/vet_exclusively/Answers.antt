use Rattle.cap_spec.proofs.ProofNames.{inl, inr, refl}
use Rattle.cap_vet.specs.Exclusives.{vetted_of}
use Rattle.cap_vet.specs.VetNames.{report_of}
use Rattle.cap_text.specs.Lines.{accepted_text}
use Rattle.cap_run.proofs.engines.sifting.MessageFilter.vet_exclusively.Goals as goal

pub returns-in-Ok : goal.returns-in-Ok
returns-in-Ok g c = λ n.
    let met = c.in-Ok.ensures.ok in
    let report = report_of (vetted_of c.in-Ok.field-0) in (
      accepted_text n report,
      inl (met.0.1.strict, inl (met.1, record { report = report; is_accepted = met.0.0; line = refl; counts = refl })),
    )

pub returns-in-Err-Refused : goal.returns-in-Err-Refused
returns-in-Err-Refused g c = λ n.
    inr (record { fault = c.in-Err-Refused.refusal; is_fault = rw c.in-Err-Refused.field-0-is at c.in-Err-Refused.ensures.err; line = refl; counts = refl })

pub returns-in-Err-Overlap : goal.returns-in-Err-Overlap
returns-in-Err-Overlap g c = λ n.
    let found = c.in-Err-Overlap in
    let h = rw found.field-0-is at found.ensures.err in
    inl (
      h.0.1.1.strict,
      inr (record {
        report = h.0.0;
        is_accepted = h.0.1.0;
        segment = found.segment;
        word = found.word;
        pointers = found.pointers;
        is_first = h.1;
        line = refl;
        counts = refl;
      }),
    )
