-- `timer_calls::tick::make_tick` meets its contract.
use Rattle.timer_calls.proofs.Returning.{tick-made}
use Rattle.timer_calls.proofs.tick.make_tick.Goals as goal

pub returns : goal.returns
returns c = tick-made c.args.s.now c.requires.0.1 c.tick_body-stirred.ensures c.dispatch.ensures
