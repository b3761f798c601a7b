-- `read_input` meets its contract: each read goes on behind those before it.
use Rattle.std.proofs.Common.{◌-◌, length, rules, arith}
use Rattle.std.proofs.lemmas.Slice.{take-put_mid_below}
use Rattle.mixture_run.proofs.Streams.{consumes_more, consumes_keeps, take-more}
use Rattle.mixture_run.proofs.read_input.Goals as goal
use Rattle.mixture_run.proofs.read_input.Goals.{in-Ok, in-Err+else-ne}

pub loop-preserved : goal.loop-preserved
loop-preserved g c =
    let before = c.loop.invariant in
    elim c.match-read.branch [
      | in-Ok w ↦
          let here = take-more c.loop.done w.in-Ok.got c.loop.out c.read.new.buf before.within w.in-Ok.ensures.bound.0 in
          record { within = search rules; bytes = rw (w.done-is, here) (consumes_more _ _ _ _ _ before.bytes w.in-Ok.ensures.bytes.0) }
      | in-Err+else-ne w ↦
          let here = take-put_mid_below c.loop.done (length c.loop.out - c.loop.done) c.loop.out c.read.new.buf c.loop.done (omega arith) before.within in
          record { within = search rules; bytes = rw (w.done-is, here) (consumes_keeps _ _ _ _ before.bytes w.in-Err.ensures.bytes) }
    ]
