-- Where the parts of a list of structs start in a layout, and how far their pointers lead.
use Rattle.cap_spec.proofs.ProofNames.{rules}
use Rattle.std.proofs.Common.{List, arith, length, length-append, suc, ℕ, ◌*◌, ◌++◌, ◌+◌, ◌<◌, ◌≡◌}

-- where the parts of an element's words are
pub element_end : (eb d p : ℕ) (ws pw : List ℕ) (k : ℕ) → length ws ≡ d → length pw ≡ k → k ≡ p
    → eb + d + p ≡ eb + length (ws ++ pw)
element_end eb d p ws pw k e f g = search (rules, length-append)

-- where the contents of an element's children begin, and those of the further elements
pub children_begin : (cb eb n d p k after : ℕ) → cb ≡ eb + suc n * (d + p) + after → k ≡ p
    → cb ≡ eb + d + k + (n * (d + p) + after)
children_begin cb eb n d p k after e f = omega arith

pub rest_begin : (cb eb n d p after s : ℕ) → cb ≡ eb + suc n * (d + p) + after
    → cb + s ≡ eb + d + p + n * (d + p) + (after + s)
rest_begin cb eb n d p after s e = omega arith

-- how far an element's pointers lead at most, and those of the further elements
pub children_near : (after n d p k s r m : ℕ) → after + suc n * (d + p) + (s + r) < m → k ≡ p
    → n * (d + p) + after + k + s < m
children_near after n d p k s r m h f = omega arith

pub rest_near : (after n each s r m : ℕ) → after + suc n * each + (s + r) < m → after + s + n * each + r < m
rest_near after n each s r m h = omega arith

-- the words of elements without their tag, and of what they lead to alone
pub without_tag : (a b m : ℕ) → 1 + a + b < m → 0 + a + b < m
without_tag a b m h = omega arith

pub elements_only : (a b m : ℕ) → 1 + a + b < m → b < m
elements_only a b m h = omega arith
