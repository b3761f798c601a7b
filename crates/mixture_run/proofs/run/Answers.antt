-- `run` meets its contract: what was read is what there was.
use Rattle.std.proofs.Common.{◌≡◌, Some, length, take, arith}
use Rattle.std.proofs.lemmas.List.{length-take-le}
use Rattle.std.proofs.lemmas.Result.{on_ok_weaker}
use Rattle.mixture_run.proofs.Streams.{read-is}
use Rattle.mixture_run.proofs.run.Goals as goal

pub returns-in-Some : goal.returns-in-Some
returns-in-Some g c =
    let read = c.in-Some.ensures in
    let room = c.read_input.new.out in
    let size : length (take c.in-Some.length room) ≡ c.in-Some.length = length-take-le c.in-Some.length room read.within in
    on_ok_weaker c.write_answer.result (λ written. record {
      input = Some (take c.in-Some.length room);
      read = read-is 65537 _ _ _ read.bytes (omega (arith, read.within)) (λ short. read.end (omega arith));
      written = written;
    }) c.write_answer.ensures
