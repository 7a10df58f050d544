-- What a pointer word that denotes a tree finds, by the kind of object.
use Rattle.cap_spec.specs.Denoting.{places}
use Rattle.cap_spec.proofs.Canonical.TrimmedMeasures.{tree_count-cut}
use Rattle.cap_spec.proofs.Lemmas.{extent_scalars, children_needed_le, tree_count-take_le, tree_count-trim_all}
use Rattle.cap_spec.proofs.Lemmas.{found_form, elements_depth, extent_pointers, extent_struct, extent_structs, one_found}
use Rattle.cap_spec.proofs.Lemmas.{HasForm, number_list, number_struct}
use Rattle.cap_spec.proofs.ProofNames.{rules, List, ap, arith, max, refl, subst, sym, take, ℕ, ◌*◌, ◌+◌, ◌∙◌, ◌≡◌, ◌≤◌}
use Rattle.cap_spec.proofs.ProofNames.{children_needed, children_of, data_needed, data_of, take_trees, trim, trim_all}
use Rattle.cap_spec.proofs.ProofNames.{trim_elements, AreElements, DenoteEach, Denotes, words_from, TagFits, HasWord}
use Rattle.cap_spec.proofs.ProofNames.{code, kind, list_size, Tree, Trees, cap, null, pointers, scalars, struct}
use Rattle.cap_spec.proofs.ProofNames.{structs}
use Rattle.cap_spec.proofs.Trees.OneTree.{elements_moved}
use Rattle.cap_ptr.specs.Shapes.{FindsObject}
use Rattle.cap_vet.proofs.Founds.{object_at}
use Rattle.cap_canon.specs.Found.{IsStructsAt}
use Rattle.cap_canon.specs.CanonNames.{IsStructAt, IsObject, most_data, Part}
use Rattle.cap_canon.proofs.Children.{row_count}
use Rattle.cap_canon.proofs.Elements.{elements_left, left_take, most_data_of, row_left, words_left}
use Rattle.cap_canon.proofs.Trimmed.{children_needed-trim, children_of-trim, data_of-trim, tree_count-trim_elements}
use Rattle.cap_ptr.specs.declared.shapes.Shape.TheVariants as shape
use Rattle.cap_canon.specs.declared.objects.Object.TheVariants as object

-- a struct
pub struct_found : {m : List (List ℕ)} {s w : ℕ} {x : Tree} (c : ℕ) {d k t b q tag n charge ds ps : ℕ} → Denotes m s w x c d
    → FindsObject m s w k t b q tag n charge (shape.Struct ds ps)
    → IsStructAt m s w t b ds ps x d
struct_found {m} {s} {w} {x} c {d} {k} {t} {b} {q} {tag} {n} {charge} {ds} {ps} h f = go x form h
  where
    form : HasForm x 2
    form = subst (HasForm x) (number_struct (kind q) (code q) f.object.shape.kind) (found_form m s w x c d k t b q h f.finds)

    go : (x : Tree) → HasForm x 2 → Denotes m s w x c d → IsStructAt m s w t b ds ps x d
    go (struct ws ts) g (k', t', b', q', tag', ds', ps', inner, deep, found', own, each) =
        search (rules, one_found found'.object (object_at m s w k t b q tag n charge (shape.Struct ds ps) f), extent_struct)
    go es g h = search rules

-- as it is trimmed
pub struct_object : (m : List (List ℕ)) (s w d : ℕ) (p : Part) (x : Tree) → IsStructAt m s w p.segment p.start p.data_words p.pointers x d
    → p.data_left ≡ max 0 (data_needed (words_from m p.segment p.start p.data_words)) → p.data_left ≤ p.data_words
    → ((ts : Trees) (c d' : ℕ) → DenoteEach m (places p.segment (p.start + p.data_words) p.pointers) ts c d' → p.pointers_left ≡ max 0 (children_needed ts))
    → p.pointers_left ≤ p.pointers → IsObject m d s w (trim x) (object.Struct p)
struct_object m s w d p x k e dle f cle =
    let us = trim_all k.children in
    let need : p.data_left ≡ data_needed k.words = omega (arith, e, ap data_needed k.data_words) in
    let left : p.pointers_left ≡ children_needed us = omega (arith, f k.children k.inner k.deep k.below, children_needed-trim k.children) in
    let row = row_left m p.segment (p.start + p.data_words) p.pointers k.deep k.children k.inner k.deep k.below (omega arith) in (
      k.deep,
      k.levels,
      record {
        found = k.found;
        words = take (data_needed k.words) k.words;
        children = take_trees (children_needed us) us;
        tree = ap trim k.tree;
        data_words = ap (λ n. take n k.words) (sym need) ∙ words_left m p.segment p.start p.data_words p.data_left k.words k.data_words dle;
        many = tree_count-take_le (children_needed us) us (children_needed_le us) ∙ sym left;
        fewer = (dle, cle);
        below = left_take m k.deep p.segment (p.start + p.data_words) (children_needed us) us row;
      },
    )

-- a list of values
pub scalars_object : (m : List (List ℕ)) (s w : ℕ) (x : Tree) (c d : ℕ) {k t b q tag words charge : ℕ} (code count : ℕ) → Denotes m s w x c d
    → FindsObject m s w k t b q tag words charge (shape.Scalars code count) → IsObject m d s w (trim x) (object.Scalars t b code count words)
scalars_object m s w x c d {k} {t} {b} {q} {tag} {words} {charge} code' count h f =
    search (rules, number_list, found_form, extent_scalars, null, cap, struct, scalars, one_found, object_at, structs)

-- a list of pointers
pub pointers_object : (m : List (List ℕ)) (s w : ℕ) (x : Tree) (c d : ℕ) {k t b q tag words charge : ℕ} (count : ℕ) → Denotes m s w x c d
    → FindsObject m s w k t b q tag words charge (shape.Pointers count) → IsObject m d s w (trim x) (object.Pointers t b count)
pointers_object m s w x c d {k} {t} {b} {q} {tag} {words} {charge} count h f = go x form h
  where
    form : HasForm x 9
    form = search (rules, number_list, found_form)

    go : (x : Tree) → HasForm x 9 → Denotes m s w x c d → IsObject m d s w (trim x) (object.Pointers t b count)
    go (pointers ts) g (k', t', b', q', tag', n, inner, deep, found, each) =
        let o = one_found found.object (object_at m s w k t b q tag words charge (shape.Pointers count) f) in
        let z : n ≡ count = cc o.kind in
        let e : places t' b' n ≡ places t b count = rw (o.segment, o.start, z) refl in
        let row : DenoteEach m (places t b count) ts inner deep = subst (λ p. DenoteEach m p ts inner deep) e each in (
          deep,
          omega (arith, found.depth),
          search (rules, tree_count-trim_all, row_count, extent_pointers, row_left),
        )
    go es g h = search rules

-- a list of structs
pub structs_found : {m : List (List ℕ)} {s w : ℕ} {x : Tree} (c : ℕ) {d k t b q tag words charge size n ds ps : ℕ} → Denotes m s w x c d
    → FindsObject m s w k t b q tag words charge (shape.Structs size n ds ps) → IsStructsAt m s w t b n ds ps x d
structs_found {m} {s} {w} {x} c {d} {k} {t} {b} {q} {tag} {words} {charge} {size} {n} {ds} {ps} h f = go x form h
  where
    form : HasForm x 10
    form = search (rules, number_list, found_form)

    tagged : HasWord m t b tag × TagFits tag (list_size q)
    tagged = f.object.tagged (f.object.shape.kind, f.object.shape.code)

    fits : n * (ds + ps) ≤ list_size q
    fits = rw (f.object.shape.count, f.object.shape.data_words, f.object.shape.pointers) tagged.1.1

    go : (x : Tree) → HasForm x 10 → Denotes m s w x c d → IsStructsAt m s w t b n ds ps x d
    go (structs y z es) g (k', t', b', q', tag', n', inner, deep, found', each) =
        search (rules, one_found found'.object (object_at m s w k t b q tag words charge (shape.Structs size n ds ps) f), extent_structs, elements_moved)
    go es g h = search rules

pub structs_object : (m : List (List ℕ)) (s w b n d : ℕ) (p : Part) (x : Tree) → p.start ≡ b + 1 → IsStructsAt m s w p.segment b n p.data_words p.pointers x d
    → p.data_left ≡ most_data m p.segment p.start p.data_words p.pointers n → p.data_left ≤ p.data_words
    → ((es : Trees) (c d' : ℕ) → AreElements m p.segment p.start p.data_words p.pointers n es c d' → p.pointers_left ≡ children_of es)
    → p.pointers_left ≤ p.pointers
    → IsObject m d s w (trim x) (object.Structs n p)
structs_object m s w b n d p x at k e dle f cle =
    let us = trim_elements k.elements in
    let all : AreElements m p.segment p.start p.data_words p.pointers n k.elements k.inner k.deep = search rules in
    let most = most_data_of m p.segment p.start p.data_words p.pointers n k.elements k.inner k.deep all in
    let need : data_of us ≡ p.data_left = data_of-trim k.elements ∙ (sym most ∙ sym e) in
    let left : children_of us ≡ p.pointers_left = children_of-trim k.elements ∙ sym (f k.elements k.inner k.deep all) in
    search (rules, elements_depth, tree_count-cut, tree_count-trim_elements, elements_left)
