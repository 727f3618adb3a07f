use Rattle.std.proofs.Common.{refl}
use Rattle.tx_events.specs.Base.{first_base}
use Rattle.script_lines.proofs.header.Header.base.Goals as goal

pub returns : goal.returns
unfolding first_base
returns c =
    rw (c.unwrap_or.ensures, c.unwrap_or-2.ensures, c.unwrap_or-3.ensures, c.unwrap_or-4.ensures, c.unwrap_or-multi.ensures, c.unwrap_or-offset.ensures, c.of_new_log-new_log.ensures) refl
