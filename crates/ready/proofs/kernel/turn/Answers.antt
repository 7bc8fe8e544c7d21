-- `ready::kernel::turn` meets its contract: what is found between the stars of the circuit's sides is the flip along it.
use Rattle.std.proofs.Common.{rules, refl, ◌≡◌, ◌*◌, ap, length, []}
use native.Mathlib.Omega.{arith}
use Rattle.shots.proofs.Patch.{patch_few}
use Rattle.shots.proofs.Chains.{accepted_run}
use Rattle.triples.specs.Sizes.{word_count}
use Rattle.triples.specs.Sets.{words_of}
use Rattle.triples.proofs.SetLaws.{words-of}
use Rattle.lists.specs.Held.{held_rows}
use Rattle.lists.proofs.Chains.{accepted_list}
use Rattle.lists.proofs.HeldLaws.{held_sides}
use Rattle.surfaces.proofs.ByStars.{sum_below, sum_low}
use Rattle.surfaces.proofs.CallChains.{flip_turned}
use Rattle.ready.specs.declared.kernel.Stars.{Stars}
use Rattle.ready.proofs.ReadyLaws.{star_at}
use Rattle.ready.proofs.kernel.turn.Goals as goal

pub overflow_add-side : goal.overflow_add-side
overflow_add-side c =
    let a = c.args in
    let l = a.shots.now in
    record { fits = sum_low l (patch_few l c.requires.0).1 a.z c.requires.3 _ _ (held_sides l c.requires.1.tests c.deref.ensures.0 a.z c.requires.3 _ refl) }

pub invariant_of-holders : goal.invariant_of-holders
invariant_of-holders c =
    let few = (patch_few c.args.shots.now c.requires.0).1 in
    let long : length c.args.ready.now.held.rows ≡ word_count * held_rows = search rules in
    record { few = few; room = omega (arith, few, long); holding = c.requires.1.tests.table.holding }

pub between-requires : goal.between-requires
between-requires c =
    let a = c.args in
    let l = a.shots.now in
    let stars = star_at l c.requires.1 c.deref.ensures.0 c.deref-2.ensures.0 a.z c.requires.3 (record { plus = 0; minus = 0 }) (record { plus = record { words = [] }; minus = record { words = [] } }) in (
      sum_below l (patch_few l c.requires.0).1 a.z c.requires.3 _ _ (held_sides l c.requires.1.tests c.deref.ensures.0 a.z c.requires.3 _ refl),
      (_, ap (λ (s : Stars). words_of s.plus) stars),
      (_, ap (λ (s : Stars). words_of s.minus) stars),
    )

pub returns : goal.returns
returns c =
    let a = c.args in
    let l = a.shots.now in
    let w = words_of a.list in
    let stars = star_at l c.requires.1 c.deref.ensures.0 c.deref-2.ensures.0 a.z c.requires.3 (record { plus = 0; minus = 0 }) (record { plus = record { words = [] }; minus = record { words = [] } }) in
    flip_turned l w a.z (accepted_run l c.requires.0) (accepted_list l w c.requires.2) (words-of a.list c.well_formed.1.1.0) c.requires.3 _ _ (held_sides l c.requires.1.tests c.deref.ensures.0 a.z c.requires.3 _ refl)
    (ap (λ (s : Stars). words_of s.plus) stars) (ap (λ (s : Stars). words_of s.minus) stars) c.between.ensures
