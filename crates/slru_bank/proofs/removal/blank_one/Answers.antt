use Rattle.slru_bank.specs.Removal.{removes}
use Rattle.slru_bank.proofs.BufferLists.{distinct_nth}
use Rattle.slru_bank.proofs.RemovalLists.{agree_nth, blank_nth, drop_nth}
use Rattle.slru_bank.proofs.removal.blank_one.Goals as goal

pub returns-clause-blank : goal.returns-clause-blank
returns-clause-blank g c so_far = blank_nth (removes g.O.PageRule.shape g.O.PageRule.per_page c.args.removal) c.args.buffers.now c.args.at c.blank_if.new.self c.requires.within c.blank_if.ensures.blank so_far

pub returns-clause-distinct : goal.returns-clause-distinct
returns-clause-distinct g c = distinct_nth c.args.buffers.now c.args.at c.index-buffers-at.result c.blank_if.new.self c.requires.within c.blank_if.ensures.page c.requires.distinct

pub returns-clause-agree : goal.returns-clause-agree
returns-clause-agree g c pages agree = agree_nth pages c.args.buffers.now c.args.at c.index-buffers-at.result c.blank_if.new.self c.requires.within (c.blank_if.ensures.agrees pages) agree

pub returns-clause-map : goal.returns-clause-map
returns-clause-map g c pages =
    drop_nth (removes g.O.PageRule.shape g.O.PageRule.per_page c.args.removal) pages c.args.buffers.now c.args.at c.index-buffers-at.result c.blank_if.new.self c.requires.within
    c.blank_if.ensures.page c.blank_if.ensures.zero_or_same c.blank_if.ensures.same
