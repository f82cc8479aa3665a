use Rattle.desk_http.specs.Serving.{result_of}
use Rattle.desk_http.proofs.loopback.answer.Goals as goal

-- of what a real connection gives and takes nothing is known
pub returns-clause-step : goal.returns-clause-step
returns-clause-step g c =
    let read = c.serve_one-served.ensures.read in
    (read.0, result_of c.serve_one-served.result, read.1)
