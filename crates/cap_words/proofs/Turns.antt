-- An end over the turns of a loop that moves bytes.
use Rattle.cap_spec.proofs.ProofNames.{Bool, List, Option, ap, drop, length, length-append, length-drop}
use Rattle.cap_spec.proofs.ProofNames.{length-take-le, take, take-add, ℕ, ◌++◌, ◌+◌, ◌-◌, ◌<◌}
use Rattle.cap_spec.proofs.ProofNames.{◌∙◌, ◌≡◌, ◌≤◌, Appends-trans, Consumes-trans, take-append-add, take-append-le}
use Rattle.cap_spec.proofs.ProofNames.{take_rest, Appends, Consumes, put_mid, rules}
use Rattle.cap_words.specs.ByteIo.{Works}

-- this many bytes were moved: with none of them the end is as it was, with some it worked
pub record Moved {E A : Type 0} (broken : E → Bool) (failures : E → A) (moved : ℕ) (old new : E) : Type 0 where
  pub none : moved ≡ 0 → new ≡ old
  pub some : 0 < moved → Works (broken old) (broken new) (failures old) (failures new)

-- a turn that works moves some more
pub moved_more : {E A : Type 0} (broken : E → Bool) (failures : E → A) (m n : ℕ) (old mid new : E)
    → Moved broken failures m old mid → 0 < n → Works (broken mid) (broken new) (failures mid) (failures new) → Moved broken failures (m + n) old new
moved_more broken failures m n old mid new before some works = search rules

-- a buffer that was filled up to a place, and then by a read into the rest of it
pub filled : {at : ℕ} (k : ℕ) {n : ℕ} (buf given : List ℕ) → at ≤ length buf → n ≤ length given → take (at + n) (put_mid at k buf given) ≡ take at buf ++ take n given
filled {at} k {n} buf given h within = search (rules, length-take-le, take-append-add, take-append-le)

-- such a buffer is as long as what was filled
pub filled_within : {at : ℕ} (k : ℕ) {n : ℕ} (buf given : List ℕ) → at ≤ length buf → n ≤ length given → at + n ≤ length (put_mid at k buf given)
filled_within {at} k buf given h within = search (rules, length-append, length-take-le)

-- what came before and what one more read gave
pub read_more : (a b c : Option (List ℕ)) (at k n : ℕ) (buf given : List ℕ) → at ≤ length buf → n ≤ length given
    → Consumes a b (take at buf) → Consumes b c (take n given) → Consumes a c (take (at + n) (put_mid at k buf given))
read_more a b c at k n buf given h within before now = search (rules, filled, Consumes-trans)

-- what went out before and what one more write took of the rest
pub write_more : (a b c : Option (List ℕ)) (done n : ℕ) (bytes : List ℕ)
    → Appends a b (take done bytes) → Appends b c (take n (take (length bytes - done) (drop done bytes))) → Appends a c (take (done + n) bytes)
write_more a b c done n bytes before now = search (rules, take_rest, take-add, Appends-trans)

-- how much the rest of a buffer holds
pub rest_length : (done : ℕ) (bytes : List ℕ) → length (take (length bytes - done) (drop done bytes)) ≡ length bytes - done
rest_length done bytes = ap length (take_rest bytes done) ∙ length-drop done bytes
