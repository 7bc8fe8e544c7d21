-- `outline::buffers::front` meets its contract: the length fits the buffer, or it does not.
use mathlib.Core.Path.{◌≡◌, refl, sym, ◌∙◌, ap}
use mathlib.Core.Logic.{◌⊎◌}
use mathlib.Core.Bool.{cond}
use mathlib.Core.List.{List, []}
use Prim.Native.Nat.{ℕ, ◌+◌, ◌<◌, ◌≤◌}
use native.Mathlib.Omega.{arith}
use borrow.Author.Tests.{le-leb, lt-leb}
use lib.ListN.{length, take}
use denote.Bor.{Bor}
use Rattle.std.specs.declared.option.Option.{Option}
use Rattle.std.specs.declared.option.Option.TheVariants as O
use Rattle.std.specs.Option.{MatchOption, unwrap_or}
use Rattle.std.specs.List.{slice_range}
use Rattle.std.proofs.lemmas.Slice.{between_from_start}
use Rattle.outline.specs.Calls.{front_bytes}
use Rattle.outline.proofs.buffers.front.Goals as goal

module _ (k : ℕ) (b : List ℕ) where
  abbrev Got : Option (Bor (List ℕ)) → Type 0
  Got r = MatchOption r ((k < 0) ⊎ (length b < k)) (λ x. (0 ≤ k) × (k ≤ length b) × (x.now ≡ slice_range b 0 k) × (length x.now + 0 ≡ k))

  got : (r : Option (Bor (List ℕ))) (d : Bor (List ℕ)) → Got r → d.now ≡ [] → (unwrap_or r d).now ≡ front_bytes k b
  unfolding front_bytes
  got O.None d m e = e ∙ sym (ap (λ t. cond t (take k b) []) (lt-leb k (length b) (omega (arith, m))))
  got (O.Some x) d m e = m.2 ∙ between_from_start b k ∙ sym (ap (λ t. cond t (take k b) []) (le-leb k (length b) m.1))

pub returns : goal.returns
returns c = ap (λ r. r.now) c.unwrap_or.ensures ∙ got _ _ c.get.result _ c.get.ensures.lookup.0 refl
