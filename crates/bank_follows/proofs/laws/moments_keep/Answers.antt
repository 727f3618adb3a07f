use Rattle.bank_follows.proofs.Moments.{member_moments, offset_moments, parent_moments, xact_moments}
use Rattle.bank_follows.proofs.laws.moments_keep.Goals as goal

pub returns-clause-xact : goal.returns-clause-xact
returns-clause-xact g c = xact_moments g.P.PageDisk.images g.P.PageDisk.moment g.P.PageDisk.left_at

pub returns-clause-parents : goal.returns-clause-parents
returns-clause-parents g c = parent_moments g.P.PageDisk.images g.P.PageDisk.moment g.P.PageDisk.left_at

pub returns-clause-offsets : goal.returns-clause-offsets
returns-clause-offsets g c = offset_moments g.P.PageDisk.images g.P.PageDisk.moment g.P.PageDisk.left_at

pub returns-clause-members : goal.returns-clause-members
returns-clause-members g c = member_moments g.P.PageDisk.images g.P.PageDisk.moment g.P.PageDisk.left_at
