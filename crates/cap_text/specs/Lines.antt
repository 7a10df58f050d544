-- The line of a message that is accepted, and the one after it (profile).
use Rattle.std.specs.Prelude.{List, [], codes, ℕ, ◌++◌, ◌∷◌}
use Rattle.cap_spec.specs.Texts.{Verdict, accepted, refused, then_number, vet_text}
use Rattle.cap_walk.specs.declared.report.Report.{Report}
use Rattle.cap_text.specs.FaultLines.{place_text}

-- the line of message n if it is accepted, with the numbers of its tree
abbrev pub accepted_text : ℕ → Report → List ℕ
accepted_text n r = vet_text n (accepted r.charge r.depth r.pointers r.caps)

-- the line after that of an accepted message, if this is the verdict of filter, the guard and the
-- libraries: that they refuse it, with the reason and the place
abbrev pub filter_line : Verdict → List ℕ
filter_line (accepted c d p k) = []
filter_line (refused name s w p) =
    codes "  filter, the guard and the libraries refuse it: " ++ name ++ place_text s w
    ++ codes " pointers" ++ then_number p ++ 10 ∷ []
