-- Numbers in bytes: writing a number and reading it back, and reading one and writing it back.
--
--   bytes-length    k bytes are k bytes
--   field_bytes     the field of a number's bytes, wherever they stand, is the number
--   bytes_field     the bytes of a field's number are the field's own
--   field_low       k bytes hold a number below 256 ^ k
--   signed_code, code-signed    whole numbers in two's complement, there and back
--   code_low        the code of a coordinate fits in four bytes
--   two_bytes, four_bytes       the library's big-endian bytes of a number
--   four_put        those four, put one by one
--   signed_read, code_read      the library's reading of four bytes as two's complement, and what it makes of a whole number
--   wrote_range     a run copied into a range of another
use mathlib.Core.Path.{◌≡◌, refl, sym, ◌∙◌, ap}
use mathlib.Core.Bool.{Bool, true, false, cond}
use mathlib.Core.List.{List, [], ◌∷◌, ◌++◌, append_assoc}
use Prim.Native.Nat.{ℕ, zero, suc, ◌+◌, ◌-◌, ◌*◌, ◌/◌, ◌%◌, ◌^◌, ◌<◌, ◌≤◌}
use native.Mathlib.Omega.{arith}
use native.Mathlib.Nat.{pow-succ'}
use lib.Dec.{ltb}
use lib.ListN.{length, get_or, set, take, drop, length-append, length-drop}
use lib.Seq.{get_or_at, get_or-drop, take-suc}
use lib.IntN.{ℤ, pos, negsuc, nat_abs}
use borrow.Author.Tests.{lt-ltb, le-ltb}
use borrow.Rule.Slice.PartMut.{put_mid}
use mir.Syntax.{w16, w32}
use mir.Val.{to_z, of_z}
use mir.Facts.{to_z_pos, to_z-neg}
use native.Mathlib.Decide.{dec_lt}
use Rattle.std.specs.Int.{to_be_bytes}
use Rattle.std.proofs.lemmas.Slice.{put_mid-paste}
use Rattle.std.proofs.lemmas.List.Edits.{paste_all}
use Rattle.algebra.specs.Writing.{wrote}
use Rattle.algebra.proofs.WritingLaws.{wrote_parts}
use Rattle.shots.specs.Sizes.{farthest}
use Rattle.records.specs.Fields.{Bytes, bytes_of, field_of, code_of, signed_of}

pub bytes-length : (k v : ℕ) → length (bytes_of k v) ≡ k
unfolding bytes_of
bytes-length zero v = refl
bytes-length (suc k) v = omega (arith, length-append (bytes_of k (v / 256)) ((v % 256) ∷ []), bytes-length k (v / 256))

pub field_bytes : (k v : ℕ) (p s : List ℕ) → v < 256 ^ k → field_of k (p ++ (bytes_of k v ++ s)) (length p) ≡ v
unfolding field_of bytes_of
field_bytes zero v p s h = omega arith
field_bytes (suc k) v p s h =
    ap (λ (b : List ℕ). 256 * field_of k (p ++ b) (length p) + get_or (p ++ b) (length p + k) 0) (append_assoc (bytes_of k (v / 256)) ((v % 256) ∷ []) s)
    ∙ sum (field_bytes k (v / 256) p ((v % 256) ∷ s) (let e = pow-succ' 256 k in omega arith)) last
  where
    last : get_or (p ++ (bytes_of k (v / 256) ++ ((v % 256) ∷ s))) (length p + k) 0 ≡ v % 256
    last =
        ap (λ (b : List ℕ). get_or b (length p + k) 0) (sym (append_assoc p (bytes_of k (v / 256)) ((v % 256) ∷ s)))
        ∙ get_or_at (p ++ bytes_of k (v / 256)) (v % 256) s 0 (length p + k) (omega (arith, length-append p (bytes_of k (v / 256)), bytes-length k (v / 256)))

    sum : {x y : ℕ} → x ≡ v / 256 → y ≡ v % 256 → 256 * x + y ≡ v
    sum e q = omega arith

pub field_low : (k : ℕ) (b : List ℕ) (at : ℕ) → Bytes b → field_of k b at < 256 ^ k
unfolding field_of
field_low zero b at h = omega arith
field_low (suc k) b at h = let e = pow-succ' 256 k in let l = field_low k b at h in let m = h (at + k) in omega arith

pub bytes_field : (k : ℕ) (b : List ℕ) (at : ℕ) → Bytes b → at + k ≤ length b → bytes_of k (field_of k b at) ≡ take k (drop at b)
unfolding field_of bytes_of
bytes_field zero b at h l = refl
bytes_field (suc k) b at h l =
    (λ i. bytes_of k (high i) ++ low i ∷ []) ∙ (λ i. bytes_field k b at h (omega arith) i ++ sym (get_or-drop at b k 0) i ∷ [])
    ∙ sym (take-suc (drop at b) k 0 (omega (arith, length-drop at b)))
  where
    high : (256 * field_of k b at + get_or b (at + k) 0) / 256 ≡ field_of k b at
    high = let m = h (at + k) in omega arith

    low : (256 * field_of k b at + get_or b (at + k) 0) % 256 ≡ get_or b (at + k) 0
    low = let m = h (at + k) in omega arith

pub signed_code : (z : ℤ) → nat_abs z ≤ farthest → signed_of (code_of z) ≡ z
unfolding signed_of code_of
signed_code (pos m) h = rw (lt-ltb m (2 ^ 31) (omega arith)) refl
signed_code (negsuc m) h = rw (le-ltb (2 ^ 32 - 1 - m) (2 ^ 31) (omega arith)) (ap negsuc (let e : 2 ^ 32 - 1 - (2 ^ 32 - 1 - m) ≡ m = omega arith in e))

pub code-signed : (v : ℕ) → v < 2 ^ 32 → code_of (signed_of v) ≡ v
unfolding signed_of code_of
code-signed v h = go (ltb v (2 ^ 31)) refl
  where
    go : (b : Bool) → ltb v (2 ^ 31) ≡ b → code_of (cond b (pos v) (negsuc (2 ^ 32 - 1 - v))) ≡ v
    go true e = refl
    go false e = let z : 2 ^ 32 - 1 - (2 ^ 32 - 1 - v) ≡ v = omega arith in z

pub code_low : (z : ℤ) → nat_abs z ≤ farthest → code_of z < 256 ^ 4
unfolding code_of
code_low (pos m) h = omega arith
code_low (negsuc m) h = omega arith

-- ---- what the library reads and writes

pub two_bytes : (v : ℕ) → to_be_bytes w16 v ≡ bytes_of 2 v
unfolding bytes_of
two_bytes v = refl

pub four_bytes : (v : ℕ) → to_be_bytes w32 v ≡ bytes_of 4 v
unfolding bytes_of
four_bytes v =
    let x : v / 16777216 % 256 ≡ v / 256 / 256 / 256 % 256 = omega arith in
    let y : v / 65536 % 256 ≡ v / 256 / 256 % 256 = omega arith in
    λ i. x i ∷ y i ∷ (v / 256 % 256) ∷ (v % 256) ∷ []

pub four_put : (t : List ℕ) (at v : ℕ) → set (set (set (set t at (v / 16777216 % 256)) (at + 1) (v / 65536 % 256)) (at + 2) (v / 256 % 256)) (at + 3) (v % 256) ≡ wrote t at (bytes_of 4 v)
unfolding wrote
four_put t at v =
    let p : at + 2 ≡ at + 1 + 1 = omega arith in
    let q : at + 3 ≡ at + 1 + 1 + 1 = omega arith in
    (λ i. set (set (set (set t at (v / 16777216 % 256)) (at + 1) (v / 65536 % 256)) (p i) (v / 256 % 256)) (q i) (v % 256)) ∙ ap (wrote t at) (four_bytes v)

pub signed_read : (v : ℕ) → v < 2 ^ 32 → to_z w32 v ≡ signed_of v
unfolding signed_of
signed_read v h = by (dec_lt v (2 ^ 31))
  where
    by : Dec (v < 2 ^ 31) → to_z w32 v ≡ cond (ltb v (2 ^ 31)) (pos v) (negsuc (2 ^ 32 - 1 - v))
    by (yes k) = to_z_pos w32 k ∙ rw (lt-ltb v (2 ^ 31) k) refl
    by (no k) =
        ap (to_z w32) (let e : v ≡ 2 ^ 32 - suc (2 ^ 32 - 1 - v) = omega arith in e)
        ∙ to_z-neg w32 (2 ^ 32 - 1 - v) (omega arith)
        ∙ rw (le-ltb v (2 ^ 31) (omega arith)) refl

pub code_read : (z : ℤ) → of_z w32 z ≡ code_of z
unfolding code_of
code_read (pos m) = refl
code_read (negsuc m) = let e : 2 ^ 32 - suc m ≡ 2 ^ 32 - 1 - m = omega arith in e

pub wrote_range : {A : Type 0} (t : List A) (at k : ℕ) (s u : List A) → u ≡ s → k ≡ length s → at + k ≤ length t → put_mid at k t u ≡ wrote t at s
wrote_range t at k s u e l h =
    put_mid-paste at k t u s k e refl l ∙ paste_all t at s k l ∙ ap (λ i. take at t ++ (s ++ drop (at + i) t)) l ∙ sym (wrote_parts t at s (omega arith))
