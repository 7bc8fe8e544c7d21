-- What one more write took follows the front that is written, and the rest begins behind it.
use Rattle.std.proofs.Common.{◌≡◌, ℕ, ◌+◌, ◌-◌, ◌≤◌, List, ◌++◌, arith, length, take, drop, length-drop, sym, ap, ◌∙◌, subst}
use Rattle.std.proofs.lemmas.List.{take_rest}
use Rattle.std.specs.Io.KnownBytes.{Appends}
use Rattle.std.proofs.KnownBytes.{Appends-trans}
use lib.Seq.{take-add, drop-drop}
use Rattle.streams.proofs.put.Goals as goal

module _ (text rest : List ℕ) (n : ℕ) (fits : length rest ≤ length text) (is : rest ≡ drop (length text - length rest) text) (taken : n ≤ length rest) where
  left : length (drop n rest) ≡ length rest - n
  left = length-drop n rest

  place : length text - length rest + n ≡ length text - length (drop n rest)
  place = omega (arith, left, fits, taken)

  behind : drop n rest ≡ drop (length text - length (drop n rest)) text
  behind = ap (drop n) is ∙ drop-drop n (length text - length rest) text ∙ ap (λ k. drop k text) place

  front : take (length text - length rest) text ++ take n rest ≡ take (length text - length (drop n rest)) text
  front = ap (λ l. take (length text - length rest) text ++ take n l) is ∙ sym (take-add (length text - length rest) n text) ∙ ap (λ k. take k text) place

pub loop-rest-preserved : goal.loop-rest-preserved
loop-rest-preserved g c =
    let text = c.args.text.now in
    let rest = c.loop-rest.rest.now in
    let n = c.in_ok-n.n in
    let (fits, is, written) = c.loop-rest.invariant in
    let taken = c.in_ok-n.ensures.within in
    rw (take_rest rest n) (
      omega (arith, left text rest n fits is taken, fits),
      behind text rest n fits is taken,
      subst (Appends _ _) (front text rest n fits is taken) (Appends-trans _ _ _ _ _ written c.in_ok-n.ensures.bytes),
    )
