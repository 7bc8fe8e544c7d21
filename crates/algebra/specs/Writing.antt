-- Runs written into lent runs, and text.
--
--   wrote t at s    t with the run s written from place at on
--   buffer_with a s t    what a lent run t is left as by a call with the answer a that writes s to its front: written where nothing refuses, as it was where something does
--   NoRoom s t      t is shorter than s
--   ascii s         the codes of a text of plain characters
--   decimal_of n     n in decimal digits, as text; `digits_of k n`: at most k of them
--
-- Laws: proofs/WritingLaws (`wrote_parts` says that what stands before and behind s stays).
use Rattle.std.specs.Prelude.{cond, List, [], ◌∷◌, ◌++◌, ℕ, zero, suc, ◌+◌, ◌/◌, ◌%◌, ◌<◌, ltb, length, set}
use Prim.Native.Char.{code}
use Prim.Native.String.{String, len, char_at}
use Rattle.algebra.specs.Answer.{Answer, gives, refuses}

unfoldable pub wrote : {A : Type 0} → List A → ℕ → List A → List A
wrote t at [] = t
wrote t at (x ∷ s) = wrote (set t at x) (at + 1) s

abbrev pub buffer_with : {A : Type 0} → Answer A → List ℕ → List ℕ → List ℕ
buffer_with (gives v) s t = wrote t 0 s
buffer_with (refuses n) s t = t

abbrev pub NoRoom : List ℕ → List ℕ → Type 0
NoRoom s t = length t < length s

-- k characters from place i on
abbrev pub ascii_from : String → ℕ → ℕ → List ℕ
ascii_from s i zero = []
ascii_from s i (suc k) = code (char_at s i) ∷ ascii_from s (suc i) k

abbrev pub ascii : String → List ℕ
ascii s = ascii_from s 0 (len s)

-- the digits of n, at most k of them
unfoldable pub digits_of : ℕ → ℕ → List ℕ
digits_of zero n = []
digits_of (suc k) n = cond (ltb n 10) ((48 + n) ∷ []) (digits_of k (n / 10) ++ (48 + n % 10) ∷ [])

unfoldable pub decimal_of : ℕ → List ℕ
decimal_of n = digits_of (suc n) n
