-- The shape of an object: its kind and its sizes, by the word that leads to it (standard: Structs, Lists).
use Rattle.std.specs.Prelude.{ℕ, ◌<◌, ◌≡◌}
use Rattle.cap_spec.specs.Pointers.{code, data_size, kind, list_size, middle, pointer_size}
use Rattle.cap_spec.specs.declared.Kind.{Kind}
use Rattle.cap_spec.specs.declared.Kind.TheVariants.{Pointers, Scalars, Struct, Structs}

-- The object of the word q, with its tag word if it is a list of structs, is of this kind.
pub data HasKind (q tag : ℕ) (x : Kind) : Type 0 where
  is_struct : kind q ≡ 0 → x ≡ Struct (data_size q) (pointer_size q) → HasKind q tag x
  is_scalars : kind q ≡ 1 → code q < 6 → x ≡ Scalars (code q) (list_size q) → HasKind q tag x
  is_pointers : kind q ≡ 1 → code q ≡ 6 → x ≡ Pointers (list_size q) → HasKind q tag x
  is_structs : kind q ≡ 1 → code q ≡ 7 → x ≡ Structs (middle tag) (data_size tag) (pointer_size tag) → HasKind q tag x

-- The same by its parts, as code has them. The word q encodes a struct of d data words and p pointers.
pub record IsStructShape (q d p : ℕ) : Type 0 where
  pub kind : kind q ≡ 0
  pub data_words : d ≡ data_size q
  pub pointers : p ≡ pointer_size q

-- a list of n values of code c that aren't pointers
pub record IsScalarsShape (q c n : ℕ) : Type 0 where
  pub kind : kind q ≡ 1
  pub code : c ≡ code q
  pub scalar : c < 6
  pub count : n ≡ list_size q

-- a list of n pointers
pub record IsPointersShape (q n : ℕ) : Type 0 where
  pub kind : kind q ≡ 1
  pub code : code q ≡ 6
  pub count : n ≡ list_size q

-- a list of n structs of d data words and p pointers, by its tag word, in size words
pub record IsStructsShape (q tag size n d p : ℕ) : Type 0 where
  pub kind : kind q ≡ 1
  pub code : code q ≡ 7
  pub words : size ≡ list_size q
  pub count : n ≡ middle tag
  pub data_words : d ≡ data_size tag
  pub pointers : p ≡ pointer_size tag
