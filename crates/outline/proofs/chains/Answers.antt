-- `outline::chains` meets its contract: the run is refused, a buffer has no room, or both chains are written.
use Rattle.std.proofs.Common.{rules, ◌≡◌, ◌∙◌, sym, ap, ◌<◌, ◌≤◌, List, length, Ok, Err}
use lib.IntN.{ℤ}
use native.Mathlib.Omega.{arith}
use Rattle.algebra.specs.Answer.{gives}
use Rattle.shots.specs.Sizes.{shots_most}
use Rattle.shots.specs.Patch.{count_of}
use Rattle.shots.specs.Tests.{Near}
use Rattle.shots.specs.Calls.{accept_of}
use Rattle.shots.proofs.Patch.{patch_near, patch_few}
use Rattle.shots.proofs.Chains.{run_accepted}
use Rattle.outline.specs.Calls.{outlined_in}
use Rattle.outline.proofs.CallChains.{outlined_stops, outlined_short, outlined_done}
use Rattle.outline.proofs.chains.Goals as goal

pub returns-in_err-accept : goal.returns-in_err-accept
returns-in_err-accept c =
    let e : c.from_residual.result ≡ Err c.in_err-accept.field-0.0 = search rules in
    ap (λ r. outlined_in r c.args.south.now c.args.north.now) e ∙ outlined_stops _ _ _ c.in_err-accept.ensures

-- the run was accepted
accepted : (l : List ℤ) → gives tt ≡ accept_of l → (0 < count_of l) × (count_of l ≤ shots_most) × Near l
accepted l e = let z = run_accepted l e in let h = patch_few l z in (omega (arith, h.0), h.1, patch_near l z)

pub chain-below-requires : goal.chain-below-requires
chain-below-requires c = accepted _ c.in_ok-accept.ensures

pub chain-above-requires : goal.chain-above-requires
chain-above-requires c = accepted _ c.in_ok-accept.ensures

pub returns-in_err-fill : goal.returns-in_err-fill
returns-in_err-fill c =
    let e : c.from_residual-in_err-fill.result ≡ Err c.in_err-fill.field-0.0 = search rules in
    ap (λ r. outlined_in r c.fill.new.south c.fill.new.north) e ∙ outlined_short _ _ _ c.in_ok-accept.ensures (c.deref.ensures.0 ∙ c.chain-below.ensures) (c.deref-2.ensures.0 ∙ c.chain-above.ensures) c.in_err-fill.ensures.0 c.in_err-fill.ensures.1 c.in_err-fill.ensures.2

pub returns : goal.returns
returns c =
    let south = c.len.ensures.value ∙ sym (ap length c.deref.ensures.0) in
    let north = c.len-2.ensures.value ∙ sym (ap length c.deref-2.ensures.0) in
    (λ k. outlined_in (Ok (record { south = south k; north = north k })) c.fill.new.south c.fill.new.north)
    ∙ outlined_done _ _ _ c.in_ok-accept.ensures (c.deref.ensures.0 ∙ c.chain-below.ensures) (c.deref-2.ensures.0 ∙ c.chain-above.ensures) c.in_ok-fill.ensures.0 c.in_ok-fill.ensures.1 c.in_ok-fill.ensures.2
