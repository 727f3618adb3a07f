use Rattle.bank_follows.proofs.Sections.{member_sections, offset_sections, parent_sections, xact_sections}
use Rattle.bank_follows.proofs.laws.sections_keep.Goals as goal

pub returns-clause-xact : goal.returns-clause-xact
returns-clause-xact g c = xact_sections g.P.PageDisk.images g.P.PageDisk.moment g.P.PageDisk.left_at

pub returns-clause-parents : goal.returns-clause-parents
returns-clause-parents g c = parent_sections g.P.PageDisk.images g.P.PageDisk.moment g.P.PageDisk.left_at

pub returns-clause-offsets : goal.returns-clause-offsets
returns-clause-offsets g c = offset_sections g.P.PageDisk.images g.P.PageDisk.moment g.P.PageDisk.left_at

pub returns-clause-members : goal.returns-clause-members
returns-clause-members g c = member_sections g.P.PageDisk.images g.P.PageDisk.moment g.P.PageDisk.left_at
