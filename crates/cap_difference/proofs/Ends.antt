-- Where a copy ends before a path: at one word.
use Rattle.cap_spec.specs.declared.Step.{Step}
use Rattle.std.proofs.lemmas.List.{append_cancel_right}
use Rattle.cap_spec.proofs.Lemmas.{one_lead, one_reached}
use Rattle.cap_spec.proofs.Paths.Preorder.{one_tour}
use Rattle.cap_spec.proofs.ProofNames.{List, [], ap, arith, refl, subst, sym, ℕ, ◌++◌, ◌+◌, ◌∙◌, ◌∷◌, ◌≡◌}
use Rattle.cap_difference.specs.Differences.{EndsBefore, HasWordsBelow, HaveWords, words_of_lead}
use Rattle.cap_difference.proofs.Preorders.{preorder}

-- an object has one number of words
one_below : (m : List (List ℕ)) (s w a b : ℕ) → HasWordsBelow m s w a → HasWordsBelow m s w b → a ≡ b
one_below m s w a b (k, r, h, e) (k', r', h', e') = e ∙ ap words_of_lead (one_lead m s w k k' r r' h h').1 ∙ sym e'

-- and so have those of some paths
pub one_words : (m : List (List ℕ)) (ps : List (List Step)) (a b : ℕ) → HaveWords m ps a → HaveWords m ps b → a ≡ b
one_words m [] a b h k = h ∙ sym k
one_words m (p ∷ ps) a b (level, s, w, one, rest, r, below, h, e) (level', s', w', one', rest', r', below', h', e') =
    let o = one_reached m p level level' s w s' w' r r' in
    let x = one_below m s' w' one one' (subst (λ u. HasWordsBelow m s' u one) o.2 (subst (λ u. HasWordsBelow m u w one) o.1 below)) below' in
    let y = one_words m ps rest rest' h h' in
    omega (arith, e, e', x, y)

pub one_end : (m : List (List ℕ)) (p : List Step) (a b : ℕ) → EndsBefore m p a → EndsBefore m p b → a ≡ b
one_end m p a b f g =
    let tours = one_tour m p (f.before ++ p ∷ []) (g.before ++ p ∷ []) f.is_tour g.is_tour in
    let same = append_cancel_right f.before g.before (p ∷ []) tours in
    let words = one_words m g.before f.words g.words (subst (λ ps. HaveWords m ps f.words) same f.have) g.have in
    omega (arith, f.ends, g.ends, words)

words_append : (m : List (List ℕ)) (xs ys : List (List Step)) (a b : ℕ) → HaveWords m xs a → HaveWords m ys b → HaveWords m (xs ++ ys) (a + b)
words_append m [] ys a b h k = let e : b ≡ a + b = omega (arith, h) in subst (HaveWords m ys) e k
words_append m (x ∷ xs) ys a b (level, s, w, one, rest, r, below, h, e) k =
    let e' : a + b ≡ one + (rest + b) = omega (arith, e) in
    (level, s, w, one, rest + b, r, below, words_append m xs ys rest b h k, e')

-- the order of the paths changes nothing
pub preorder_words : (m : List (List ℕ)) (seen : List (List Step)) (n : ℕ) → HaveWords m seen n → HaveWords m (preorder seen) n
preorder_words m [] n h = h
preorder_words m (p ∷ seen) n (level, s, w, one, rest, r, below, h, e) =
    let sum : rest + one ≡ n = omega (arith, e) in
    let last : one ≡ one + 0 = omega arith in
    subst (HaveWords m (preorder seen ++ p ∷ [])) sum
    (words_append m (preorder seen) (p ∷ []) rest one (preorder_words m seen rest h) (level, s, w, one, 0, r, below, refl, last))
