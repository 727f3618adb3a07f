-- What recording the parent that is still to be recorded leaves.
use Rattle.std.specs.Prelude.{None}
use Rattle.engine_parts.specs.declared.session.Session.{Session}

-- no parent is still to be recorded
abbrev pub linked : Session → Session
linked s = record s { unlinked = None }
