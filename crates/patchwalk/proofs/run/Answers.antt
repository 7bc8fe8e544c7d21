-- What was read decides the report, however long the input is; where a read fails nothing is printed.
use Rattle.std.proofs.Common.{rules}
use Rattle.std.proofs.lemmas.Result.{on_ok_weaker, on_err_weaker}
use Rattle.std.specs.Io.KnownBytes.{Appends}
use Rattle.streams.specs.Written.{StopsShort}
use Rattle.patchwalk.proofs.PrintLaws.{on_err, read_all, stops_first}
use Rattle.patchwalk.proofs.run.Goals as goal

pub returns-in_err-n-clause-front : goal.returns-in_err-n-clause-front
returns-in_err-n-clause-front g c = on_err c.from_residual.result (stops_first _ _)

pub returns-clause-all : goal.returns-clause-all
returns-clause-all g c =
    on_ok_weaker c.print.result
    (read_all (Appends _ _) _ _ _ _ c.in_ok-n.ensures.bytes c.in_ok-n.ensures.end c.in_ok-n.ensures.within.0 (search rules))
    c.print.ensures.all

pub returns-clause-front : goal.returns-clause-front
returns-clause-front g c =
    on_err_weaker c.print.result
    (read_all (StopsShort _ _) _ _ _ _ c.in_ok-n.ensures.bytes c.in_ok-n.ensures.end c.in_ok-n.ensures.within.0 (search rules))
    c.print.ensures.front
