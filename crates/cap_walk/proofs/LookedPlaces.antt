-- What following a pointer that was looked at uses: its pads, and the words of its object.
use Rattle.cap_spec.proofs.ProofNames.{List, append-nil, arith, inl, inr, length, refl, ℕ, ◌<◌, pads_of}
use Rattle.cap_ptr.specs.UsedPlaces.{UsesPlace}
use Rattle.cap_walk.specs.Looking.{IsLooked}
use Rattle.cap_walk.specs.Turning.{object_place}
use Rattle.cap_walk.specs.declared.looking.Looked.{Looked}
use Rattle.cap_walk.specs.declared.looking.Looked.TheVariants as looked

-- null and a capability use their pads alone
pub looked_place : {m : List (List ℕ)} (words depth consumed : ℕ) {s w : ℕ} (level : ℕ) (l : Looked) → s < length m
    → IsLooked m words depth consumed s w level l → UsesPlace m s w (object_place l)
looked_place words depth consumed level (looked.Null cost) there h = record {
  used = λ q has. (q, has, inl (cost, h.0, append-nil (pads_of q)));
  exists = omega (arith, there);
  inside = omega arith;
}
looked_place words depth consumed level (looked.Cap cost) there h = record {
  used = λ q has. (q, has, inr (inl (cost, h.0.0, h.0.1, append-nil (pads_of q))));
  exists = omega (arith, there);
  inside = omega arith;
}
looked_place words depth consumed level (looked.Object cost deep run place) there (k, t, b, q, tag, o) = rw o.own (record {
  used = λ p has. (p, has, inr (inr (k, t, b, q, o.finds, refl)));
  exists = o.finds.inside.exists;
  inside = o.finds.inside.inside;
})
