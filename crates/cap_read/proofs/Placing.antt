-- What is read at the end of a path.
use Rattle.cap_spec.specs.declared.Step.{Step}
use Rattle.cap_spec.proofs.Lemmas.{one_coming, one_lead, one_tree}
use Rattle.cap_spec.proofs.ProofNames.{IfSome, List, MatchOption, None, Option, Some, [], ap, length, option_map, pos}
use Rattle.cap_spec.proofs.ProofNames.{refl, subst, sym, ℕ, ◌+◌, ◌<◌, ◌∙◌, ◌≡◌, ◌≤◌, Denotes, words_from, to_object}
use Rattle.cap_spec.proofs.ProofNames.{segment_of, HasPlace, IsPlace, ReachesSpot, Spot, element, word, plain_text, extent}
use Rattle.cap_spec.proofs.ProofNames.{Own, own_of, DenotesAt, Tree, node_at}
use Rattle.cap_walk.specs.Reports.{IsReport}
use Rattle.cap_vet.specs.Views.{bytes_of_place}
use Rattle.cap_ptr.specs.declared.place.Place.{Place}
use Rattle.cap_walk.specs.declared.report.Report.{Report}
use Rattle.cap_read.specs.ReadNodes.{IsPlaceInside, IsRead}

-- nothing has a place where a path doesn't come to a spot,
pub no_place : (m : List (List ℕ)) (path : List Step) → ((level : ℕ) (a : Spot) → ReachesSpot m path level a → ⊥) → (t b n : ℕ) → IsPlace m path t b n → ⊥
no_place m path none t b n h = none h.0 h.1 h.2

-- or where nothing is at that spot;
no_place_there : (m : List (List ℕ)) (path : List Step) (level : ℕ) (a : Spot) → ReachesSpot m path level a → ((t b n : ℕ) → HasPlace m a t b n → ⊥) →
    (t b n : ℕ) → IsPlace m path t b n → ⊥
no_place_there m path level a h none t b n g =
    none t b n (subst (λ (x : Spot). HasPlace m x t b n) (sym (one_coming m path level g.0 a g.1 h g.2).1) g.3)

-- and else the place of the path is that of what is there.
placed_there : (m : List (List ℕ)) (path : List Step) (level : ℕ) (a : Spot) (o : Option Place) → ReachesSpot m path level a
    → MatchOption o ((t b n : ℕ) → HasPlace m a t b n → ⊥) (λ p. HasPlace m a p.segment p.start p.words)
    → IfSome o (λ p. p.segment < length m) → IfSome o (λ p. p.start + p.words ≤ length (segment_of m p.segment))
    → MatchOption o ((t b n : ℕ) → IsPlace m path t b n → ⊥) (IsPlaceInside m path)
placed_there m path level a None h s e i = no_place_there m path level a h s
placed_there m path level a (Some p) h s e i = record { is_place = (level, a, h, s); exists = e; inside = i }

-- the one tree
only_tree : (m : List (List ℕ)) (words depth : ℕ) (r : Report) (t : Tree) → IsReport m words depth r t → (u : Tree) (c d : ℕ) → Denotes m 0 0 u c d →
    (u ≡ t) × (c ≡ r.charge) × (d ≡ r.depth)
only_tree m words depth r t h u c d g = let o = one_tree m 0 0 u t c d r.charge r.depth g h.within.denotes in (o.part, o.charge, o.depth)

-- Nothing is read where the tree has no node.
pub nothing_read : {m : List (List ℕ)} {words depth : ℕ} {path : List Step} {r : Report} (t : Tree) → IsReport m words depth r t
    → ((level : ℕ) (a : Spot) → ReachesSpot m path level a → ⊥) → ((u : Tree) (c d : ℕ) → Denotes m 0 0 u c d → node_at u path ≡ None)
    → IsRead m words depth path r None None
nothing_read {m} {words} {depth} {path} {r} t h none empty = record {
  tree = t;
  report = h;
  only = only_tree m words depth r t h;
  node = ap (option_map own_of) (sym (empty t r.charge r.depth h.within.denotes));
  placed = no_place m path none;
}

-- Else the node is read.
pub node_read : {m : List (List ℕ)} {words depth : ℕ} {path : List Step} {r : Report} (t : Tree) (a : Spot) {own : Own} {o o' : Option Place} →
    IsReport m words depth r t
    → ((level : ℕ) × ReachesSpot m path level a)
    → ((u : Tree) (c d : ℕ) → Denotes m 0 0 u c d → (x : Tree) × (node_at u path ≡ Some x) × DenotesAt m a x)
    → ((x : Tree) → DenotesAt m a x → own ≡ own_of x)
    → o ≡ o' → MatchOption o' ((t b n : ℕ) → HasPlace m a t b n → ⊥) (λ p. HasPlace m a p.segment p.start p.words)
    → IfSome o (λ p. p.segment < length m) → IfSome o (λ p. p.start + p.words ≤ length (segment_of m p.segment))
    → IsRead m words depth path r (Some own) o
node_read {m} {words} {depth} {path} {r} t a {o} h come node shows same s e i =
    let x = node t r.charge r.depth h.within.denotes in
    let there : MatchOption o ((t b n : ℕ) → HasPlace m a t b n → ⊥) (λ p. HasPlace m a p.segment p.start p.words) = rw same s in record {
      tree = t;
      report = h;
      only = only_tree m words depth r t h;
      node = ap Some (shows x.0 x.2) ∙ ap (option_map own_of) (sym x.1);
      placed = placed_there m path come.0 a o come.1 there e i;
    }

-- one thing is at a spot
one_lies : (m : List (List ℕ)) (a : Spot) (t b n t' b' n' : ℕ) → HasPlace m a t b n → HasPlace m a t' b' n' → (t ≡ t') × (b ≡ b') × (n ≡ n')
one_lies m (word s w) t b n t' b' n' h g =
    let l : to_object t (pos b) h.1 ≡ to_object t' (pos b') g.1 =
    (one_lead m s w h.0 g.0 (to_object t (pos b) h.1) (to_object t' (pos b') g.1) h.2.leads g.2.leads).1 in
    let q : h.1 ≡ g.1 = cc in
    (cc, cc, h.3 ∙ (ap extent q ∙ sym g.3))
one_lies m (element t'' b'' ds ps) t b n t' b' n' h g = (h.0 ∙ sym g.0, h.1 ∙ sym g.1, h.2 ∙ sym g.2)

-- the bytes of the place of what is at the end of a path are those of the place of the path
pub bytes_there : (m : List (List ℕ)) (path : List Step) (level : ℕ) (a : Spot) (o : Option Place) → ReachesSpot m path level a
    → MatchOption o ((t b n : ℕ) → HasPlace m a t b n → ⊥) (λ p. HasPlace m a p.segment p.start p.words)
    → (t b n : ℕ) → IsPlace m path t b n → bytes_of_place m o ≡ plain_text (words_from m t b n)
bytes_there m path level a None h s t b n g = absurd (no_place_there m path level a h s t b n g)
bytes_there m path level a (Some p) h s t b n g =
    let same : g.1 ≡ a = sym (one_coming m path level g.0 a g.1 h g.2).1 in
    let e = one_lies m a p.segment p.start p.words t b n s (subst (λ (x : Spot). HasPlace m x t b n) same g.3) in
    ap (λ x. plain_text (words_from m x p.start p.words)) e.0
    ∙ (ap (λ x. plain_text (words_from m t x p.words)) e.1 ∙ ap (λ x. plain_text (words_from m t b x)) e.2)

-- and there are none where the path has no place
pub no_bytes_there : (m : List (List ℕ)) (path : List Step) (level : ℕ) (a : Spot) (o : Option Place) → ReachesSpot m path level a
    → MatchOption o ((t b n : ℕ) → HasPlace m a t b n → ⊥) (λ p. HasPlace m a p.segment p.start p.words)
    → ((t b n : ℕ) → IsPlace m path t b n → ⊥) → bytes_of_place m o ≡ []
no_bytes_there m path level a None h s none = refl
no_bytes_there m path level a (Some p) h s none = absurd (none p.segment p.start p.words (level, a, h, s))
