use Rattle.desk_http.specs.Services.{Performs}
use Rattle.desk_http.proofs.Connections.{operations}
use Rattle.desk_http.proofs.loopback.serve_connections.Goals as goal

pub returns-clause-operations : goal.returns-clause-operations
returns-clause-operations g c =
    let steps = c.serve_clients.ensures.steps in (
      steps.0,
      steps.1,
      operations (Performs g.S.Service.state g.S.Service.machine g.S.Service.left g.S.Service.relates) c.args.site.now
          g.S.Service.over steps.0 c.args.service.now c.serve_clients.new.service steps.2,
    )
