-- Where a pointer word leads that isn't far.
use Rattle.cap_spec.proofs.Lemmas.{leads-near, start_after}
use Rattle.cap_spec.proofs.ProofNames.{List, arith, pos, refl, sym, ℕ, ◌+ℤ◌, ◌+◌, ◌-◌, ◌<◌, ◌^◌, ◌∙◌, ◌≡◌, ◌≢◌, Finds, HasWord}
use Rattle.cap_spec.proofs.ProofNames.{common_steps, kind, middle, signed_offset_of, to_object}

-- The word p, at word w of a segment, finds an object of segment t at word b, over k pads. The word q gives its shape.
pub record FindsNear (s w k t b q p : ℕ) : Type 0 where
  pub kind : kind p < 2
  pub some : p ≢ 0
  pub pads : k ≡ 0
  pub segment : t ≡ s
  pub start : pos b ≡ pos (w + 1) +ℤ signed_offset_of p
  pub shape : q ≡ p

pub finds_near : (m : List (List ℕ)) (s w k t b q p : ℕ) → Finds m s w k t b q → HasWord m s w p → kind p ≢ 2 → FindsNear s w k t b q p
finds_near m s w k t b q p f has near =
    let r = leads-near m s w k (to_object t (pos b) q) f.leads p has near in
    record { kind = r.1.0; some = r.1.1; pads = r.0; segment = r.1.2; start = r.1.3; shape = r.1.4 }

-- the offset of a word that leads to a later word
pub offset_to : (p w end : ℕ) → pos end ≡ pos (w + 1) +ℤ signed_offset_of p → w < end → middle p ≡ end - w - 1
offset_to p w end e lt = grind (arith, common_steps)

-- an object begins as many words past its pointer word as the offset says
pub start_at : (p w b end : ℕ) → pos b ≡ pos (w + 1) +ℤ signed_offset_of p → w + 1 + middle p ≡ end → end < 2 ^ 29 → b ≡ end
start_at p w b end e h small =
    let k = start_after p w end (middle p) refl (omega (arith, h, small)) (sym h) in
    let same : pos b ≡ pos end = e ∙ sym k in cc
