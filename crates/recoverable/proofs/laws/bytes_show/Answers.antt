use Rattle.recoverable.proofs.BytesShow.{member_bytes_show, offset_bytes_show}
use Rattle.recoverable.proofs.laws.bytes_show.Goals as goal

pub returns-clause-offsets : goal.returns-clause-offsets
returns-clause-offsets c = offset_bytes_show

pub returns-clause-members : goal.returns-clause-members
returns-clause-members c = member_bytes_show
