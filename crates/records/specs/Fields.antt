-- Numbers in bytes: big-endian, and two's complement for signed ones.
--
--   Bytes b          every place of b holds a byte
--   bytes_of k v      v as k bytes, the most significant first
--   field_of k b at   the number in the k bytes of b from place at on
--   code_of z         a whole number as four bytes' worth: two's complement
--   signed_of v       the whole number of that code
--
-- Laws: proofs/FieldLaws (`field_bytes`, `bytes_field`, `signed_code`, `code-signed`). Source: document 01, "Records".
use Rattle.std.specs.Prelude.{cond, List, [], ◌∷◌, ◌++◌, ℕ, zero, suc, ◌+◌, ◌-◌, ◌*◌, ◌/◌, ◌%◌, ◌^◌, ◌<◌, ltb, get_or, ℤ, pos, negsuc}

abbrev pub Bytes : List ℕ → Type 0
Bytes b = (i : ℕ) → get_or b i 0 < 256

unfoldable pub bytes_of : ℕ → ℕ → List ℕ
bytes_of zero v = []
bytes_of (suc k) v = bytes_of k (v / 256) ++ (v % 256) ∷ []

unfoldable pub field_of : ℕ → List ℕ → ℕ → ℕ
field_of zero b at = 0
field_of (suc k) b at = 256 * field_of k b at + get_or b (at + k) 0

unfoldable pub code_of : ℤ → ℕ
code_of (pos m) = m
code_of (negsuc m) = 2 ^ 32 - 1 - m

unfoldable pub signed_of : ℕ → ℤ
signed_of v = cond (ltb v (2 ^ 31)) (pos v) (negsuc (2 ^ 32 - 1 - v))
