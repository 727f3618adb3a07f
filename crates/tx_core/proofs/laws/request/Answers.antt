use Rattle.tx_core.proofs.ChangeLaws.{request_law}
use Rattle.tx_core.proofs.laws.request.Goals as goal

pub returns : goal.returns
returns c = request_law
