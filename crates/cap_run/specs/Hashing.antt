-- What may be written of a message whose canonical words are hashed (profile).
use Rattle.std.specs.Prelude.{Bool, List, false, true, ℕ, ◌≡◌, ◌⊎◌}
use Rattle.sha2.specs.Sha256.{sha256}
use Rattle.cap_spec.specs.Canonical.{layout, trim}
use Rattle.cap_spec.specs.Copies.{IsCanonical}
use Rattle.cap_spec.specs.Denoting.{Denotes}
use Rattle.cap_spec.specs.Paths.{IsFirstCap}
use Rattle.cap_spec.specs.Plain.{plain_text}
use Rattle.cap_spec.specs.Tree.{Tree, has_cap}
use Rattle.cap_walk.specs.Reports.{IsAccepted}
use Rattle.cap_walk.specs.declared.demands.Demands.{Demands}
use Rattle.cap_walk.specs.declared.report.Report.{Report}
use Rattle.cap_text.specs.HashLines.{digest_text, hash_text, no_form_text}
use Rattle.cap_run.specs.Demanding.{AllocatesUnder, OrFault}
use Rattle.cap_run.specs.Reporting.{Reports}
use Rattle.cap_run.specs.declared.engines.stream.Counted.{Counted}
use Rattle.cap_run.specs.declared.engines.stream.Counted.TheVariants.{Accepted, NotCanonical}

-- the hash of a tree's canonical form: of the bytes of its layout
abbrev pub hash_of : Tree → List ℕ
hash_of t = sha256 (plain_text (layout t))

-- the line of message n with this hash: the digits alone, or after the number of the message
abbrev pub hash_line : Bool → ℕ → List ℕ → List ℕ
hash_line true n hash = digest_text hash
hash_line false n hash = hash_text n hash

-- The line of message n if it is accepted and its tree has no capability. The hash is that of the
-- trimmed tree, whatever else the message is.
pub record ReportsHash (alone : Bool) (words depth n : ℕ) (m : List (List ℕ)) (text : List ℕ)
    (counted : Counted) : Type 0 where
  pub report : Report
  pub is_accepted : IsAccepted m words depth report
  pub tree : Tree
  pub charge : ℕ
  pub deepest : ℕ
  pub denotes : Denotes m 0 0 tree charge deepest
  pub no_caps : has_cap tree ≡ false
  pub line : text ≡ hash_line alone n (hash_of (trim tree))
  pub counts : counted ≡ Accepted

-- the line of message n if it is accepted and has a capability, with the place of the first in
-- preorder
pub record ReportsNoForm (words depth n : ℕ) (m : List (List ℕ)) (text : List ℕ)
    (counted : Counted) : Type 0 where
  pub report : Report
  pub is_accepted : IsAccepted m words depth report
  pub segment : ℕ
  pub word : ℕ
  pub is_first : IsFirstCap m segment word
  pub line : text ≡ no_form_text n segment word
  pub counts : counted ≡ NotCanonical

-- one of the two
abbrev pub ReportsHashed : Bool → ℕ → ℕ → Reports
ReportsHashed alone words depth n m text counted =
    ReportsHash alone words depth n m text counted ⊎ ReportsNoForm words depth n m text counted

-- The messages that are copied to hash them: those that are accepted and not canonical, and have a
-- copy. A canonical message is hashed where it is.
pub record AllocatesCopy (words depth : ℕ) (m : List (List ℕ)) : Type 0 where
  pub report : Report
  pub is_accepted : IsAccepted m words depth report
  pub not_canonical : ¬ IsCanonical m
  pub no_caps : (s w : ℕ) → ¬ IsFirstCap m s w

-- the line of `hash`
abbrev pub ReportsHashUnder : Demands → ℕ → ℕ → Reports
ReportsHashUnder demands = OrFault demands (ReportsHashed false)

-- the line of `hash --one`
abbrev pub ReportsDigestUnder : Demands → ℕ → ℕ → Reports
ReportsDigestUnder demands = OrFault demands (ReportsHashed true)

-- the messages that are copied: those of them that meet the demands
abbrev pub AllocatesCopyUnder : Demands → ℕ → ℕ → List (List ℕ) → Type 0
AllocatesCopyUnder demands = AllocatesUnder demands AllocatesCopy
