-- The words that following a pointer uses: its pads, and the words of its object.
use Rattle.cap_spec.specs.Denoting.{places}
use Rattle.cap_spec.proofs.Disjoint.Places.{no_pads}
use Rattle.cap_spec.proofs.ProofNames.{List, arith, inl, inr, subst, suc, sym, ℕ, ◌++◌, ◌+◌}
use Rattle.cap_spec.proofs.ProofNames.{◌≡◌, ◌≢◌, Lead, Leads, to_cap, to_null, to_object, pos, HasWord, Occupies}
use Rattle.cap_spec.proofs.ProofNames.{far_segment, kind, pad, pads_of, two, rules}
use Rattle.cap_ptr.specs.UsedPlaces.{UsesAlone, UsesPlace}
use Rattle.cap_ptr.specs.declared.place.Place.{Place}
use Rattle.cap_vet.proofs.Pads.{pad_places}

-- what uses places leads to some place
pub used_leads : {m : List (List ℕ)} {s w : ℕ} {used : List (ℕ × ℕ)} → Occupies m s w used → (k : ℕ) × (r : Lead) × Leads m s w k r
used_leads (p, has, inl (k, h, e)) = (k, to_null, h)
used_leads (p, has, inr (inl (k, i, h, e))) = (k, to_cap i, h)
used_leads (p, has, inr (inr (k, t, b, q, f, e))) = (k, to_object t (pos b) q, f.leads)

-- A pointer that isn't far uses its object's words alone,
pub near_alone : {m : List (List ℕ)} {s w q : ℕ} {p : Place} → HasWord m s w q → kind q ≢ 2 → UsesPlace m s w p → UsesAlone m s w p
near_alone {m} {s} {w} {q} {p} has near h = record {
  used = rw (no_pads q near) at (h.used q has);
  exists = h.exists;
  inside = h.inside;
}

-- places in a row, and then more
places_on : (t b n k : ℕ) → places t b n ++ places t (b + n) k ≡ places t b (n + k)
places_on t b (suc n) k =
    let more : suc n + k ≡ suc (n + k) = omega arith in
    search (rules, places_on t (b + 1) n k)
places_on t b n k = search rules

-- and so does a far one whose pads are right before them.
pub far_alone : {m : List (List ℕ)} {s w q n start : ℕ} {p : Place} → HasWord m s w q → kind q ≡ 2 → p.segment ≡ far_segment q
    → start ≡ pad q → n ≡ 1 + two q → start + n ≡ p.start → UsesPlace m s w p
    → UsesAlone m s w record { segment = p.segment; start = start; words = n + p.words }
far_alone {m} {s} {w} {q} {n} {start} {p} has far segment at many next h = record {
  used = subst (Occupies m s w) row (h.used q has);
  exists = h.exists;
  inside = omega (arith, h.inside, next);
}
  where
    row : pads_of q ++ places p.segment p.start p.words ≡ places p.segment start (n + p.words)
    row = rw (sym (pad_places q p.segment start n far segment at many), sym next) (places_on p.segment start n p.words)
