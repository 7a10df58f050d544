-- The rest of a table after its first word, and the contents after a table: what was read, and why nothing was.
use Rattle.std.proofs.lemmas.List.Elements.{All-from_recursion}
use Rattle.cap_spec.proofs.ProofNames.{Bool, IfSome, List, Option, Some, [], arith, drop, length, subst, sum}
use Rattle.cap_spec.proofs.ProofNames.{ℕ, ◌%◌, ◌+◌, ◌/◌, ◌<◌, ◌^◌, ◌∷◌, ◌≡◌, ◌≤◌, get_or-map, length-map}
use Rattle.cap_spec.proofs.ProofNames.{Consumes, Frames, IsPartial, IsTable, in_contents, in_table, joined, sizes_of}
use Rattle.cap_spec.proofs.ProofNames.{IsMessage, rules}
use Rattle.cap_words.specs.declared.sources.SourceFault.TheVariants.{Truncated}
use Rattle.cap_frame.specs.FrameNames.{SourceFault, Faults, TakesTable, frame_fault_of, IsUsable, Stops, Takes}
use Rattle.cap_frame.proofs.Taking.{stops_later, takes_both}
use Rattle.cap_words.specs.declared.sources.WordSource as source

-- where fewer words are left than the table needs, they are a part of a frame
pub partial_table : (a b : Option (List ℕ)) (limit first n byte : ℕ) (ps qs : List ℕ) (cut : Bool) → first % 2 ^ 32 < 512
    → Consumes a b (first ∷ [])
    → IfSome b (λ ws. (length ws < (first % 2 ^ 32 + 1) / 2) × (drop (length ws) qs ≡ byte ∷ []))
    → IfSome a (λ ws. (length ws < n) × (drop (length ws) ps ≡ byte ∷ []))
    → IfSome a (λ ws. IsPartial limit ws cut × (drop (length ws) ps ≡ byte ∷ []))
partial_table (Some ws) (Some rest) limit first n byte ps qs cut few c s u = (in_table first rest c few s.0, u.1)
partial_table a b limit first n byte ps qs cut few c s u = search rules

-- and so where fewer are left than the contents want
pub partial_contents : (a b : Option (List ℕ)) (limit n byte : ℕ) (table sizes ps qs : List ℕ) (cut : Bool) → IsTable table sizes → sum sizes ≤ limit
    → Consumes a b table
    → IfSome b (λ ws. (length ws < sum sizes) × (drop (length ws) qs ≡ byte ∷ []))
    → IfSome a (λ ws. (length ws < n) × (drop (length ws) ps ≡ byte ∷ []))
    → IfSome a (λ ws. IsPartial limit ws cut × (drop (length ws) ps ≡ byte ∷ []))
partial_contents (Some ws) (Some rest) limit n byte table sizes ps qs cut t l c s u = (in_contents table sizes rest c t l s.0, u.1)
partial_contents a b limit n byte table sizes ps qs cut t l c s u = search rules

module _ {X : Type 0} (g : source.Ghosts X) where
  -- the source stopped inside the table
  pub after_first : (limit first : ℕ) (old mid new : X) (fault : SourceFault) → first % 2 ^ 32 < 512 → Takes g old mid (first ∷ []) → IsUsable g old mid
      → Stops g ((first % 2 ^ 32 + 1) / 2) mid new fault → Faults g limit old new (frame_fault_of fault)
  after_first limit first old mid new (Truncated byte) few t u s =
      let n = (first % 2 ^ 32 + 1) / 2 in
      let later = stops_later g old mid new (first ∷ []) n (Truncated byte) t u s in
      record {
        short = partial_table (g.words old) (g.words mid) limit first (1 + n) byte (g.places old) (g.places mid) (g.is_cut old) few t.consumed s.short
            later.short;
        place = s.place;
        usable = later.usable;
        none_failed = later.none_failed;
        over = s.over;
        how = later.how;
      }
  after_first limit first old mid new fault few t u s = search rules

  -- the table, with its first word
  pub table_whole : (first : ℕ) (old mid new : X) (sizes : List ℕ) → Takes g old mid (first ∷ [])
      → (more : List ℕ) × Takes g mid new more × IsTable (first ∷ more) sizes → TakesTable g old new sizes
  table_whole first old mid new sizes t b = search (rules, takes_both)

  -- the source stopped inside the contents after a table
  pub after_contents : (limit : ℕ) (old mid new : X) (sizes : List ℕ) (fault : SourceFault) → TakesTable g old mid sizes → IsUsable g old mid
      → sum sizes ≤ limit
      → Stops g (sum sizes) mid new fault → Faults g limit old new (frame_fault_of fault)
  after_contents limit old mid new sizes (Truncated byte) t u l s =
      let later = stops_later g old mid new t.table (sum sizes) (Truncated byte) t.takes u s in
      record {
        short = partial_contents (g.words old) (g.words mid) limit (length t.table + sum sizes) byte t.table sizes (g.places old) (g.places mid)
            (g.is_cut old) t.is_table l t.takes.consumed s.short later.short;
        place = s.place;
        usable = later.usable;
        none_failed = later.none_failed;
        over = s.over;
        how = later.how;
      }
  after_contents limit old mid new sizes fault t u l s = search rules

  -- the table and the contents frame the message
  pub after_message : (old mid new : X) (sizes : List ℕ) (m : List (List ℕ)) → TakesTable g old mid sizes → Takes g mid new (joined m) → sizes_of m ≡ sizes
      → (own : List ℕ) × Takes g old new own × Frames own m
  after_message old mid new sizes m t u e = search (rules, takes_both g old mid new t.table (joined m) t.takes u)

-- segments of the sizes of a table are a message
pub message_of : (table : List ℕ) (m : List (List ℕ)) → IsTable table (sizes_of m) → IsMessage m
message_of table m t = record {
  some = omega (arith, t.some, length-map m (λ (ws : List ℕ). length ws));
  few = omega (arith, t.few, length-map m (λ (ws : List ℕ). length ws));
  lengths = λ k d h.
      let all = All-from_recursion (λ (n : ℕ). n < 2 ^ 32) (sizes_of m) t.fit in
      let inside : k < length (sizes_of m) = omega (arith, length-map m (λ (ws : List ℕ). length ws)) in
      subst (λ (n : ℕ). n < 2 ^ 32) (get_or-map (λ (ws : List ℕ). length ws) m k d 0 h) (all k 0 inside);
}
