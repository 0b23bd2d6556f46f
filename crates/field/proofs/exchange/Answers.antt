-- `field::exchange` meets its contract. Assumes nothing.
use Rattle.std.proofs.Common.{arith}
use Rattle.field.proofs.Window.{one_shl_pos}
use Rattle.field.proofs.Put.{old_le, exchanged, exchanged_lt}
use Rattle.field.proofs.exchange.Goals as goal

pub overflow_sub-mask : goal.overflow_sub-mask
overflow_sub-mask c = one_shl_pos c.args.w (omega arith)

pub overflow_sub-others : goal.overflow_sub-others
overflow_sub-others c = let a = c.args in old_le a.x a.low a.w a.v (omega arith) (omega arith) (omega arith) (omega arith)

pub overflow_add-result : goal.overflow_add-result
overflow_add-result c = let a = c.args in record { fits = rw (exchanged a.x a.low a.w a.v (omega arith) (omega arith) (omega arith) (omega arith)) (exchanged_lt a.x a.low a.w a.v (omega arith) (omega arith) (omega arith) (omega arith)) }

pub returns : goal.returns
returns c = let a = c.args in exchanged a.x a.low a.w a.v (omega arith) (omega arith) (omega arith) (omega arith)
