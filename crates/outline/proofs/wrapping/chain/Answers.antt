-- `outline::wrapping::chain` meets its contract: what is written, and what is still to come, are the whole chain.
use Rattle.outline.proofs.ChainSteps.{coming_all, coming_none, coming_last, coming_more}
use Rattle.outline.proofs.wrapping.chain.Goals as goal

pub loop-init : goal.loop-init
loop-init c = (c.first-p.ensures.1, coming_all _ _ _ c.first-p.ensures.0 c.new-corners.ensures)

pub loop-preserved : goal.loop-preserved
loop-preserved c = (c.next-q.ensures.1, coming_more _ _ _ _ _ _ c.loop.invariant.1 c.loop-test.true c.push.ensures.items _ c.next-q.ensures.0 c.if-q-p.false)

pub returns-then-q-p : goal.returns-then-q-p
returns-then-q-p c = coming_last _ _ _ _ _ _ c.loop.invariant.1 c.loop-test.true c.push.ensures.items _ c.next-q.ensures.0 c.if-q-p.true

pub returns-after-loop : goal.returns-after-loop
returns-after-loop c = coming_none _ _ _ _ _ _ c.loop.invariant.1 c.loop-test.false
