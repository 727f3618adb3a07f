use Rattle.std.proofs.Common.{get_or}
use Rattle.slru_bank.specs.Removal.{removes}
use Rattle.slru_bank.proofs.RemovalLists.{agree_nth, keep_nth, empty_distinct_nth, empty_blank_nth, empty_agrees, empty_map_nth}
use Rattle.slru_bank.proofs.removal.empty_one.Goals as goal

pub returns-clause-keep : goal.returns-clause-keep
returns-clause-keep g c so_far = keep_nth (removes g.O.PageRule.shape g.O.PageRule.per_page c.args.removal) c.args.buffers.now c.args.at c.empty_if.new.self c.requires.within c.empty_if.ensures.keeps so_far

pub returns-clause-distinct : goal.returns-clause-distinct
returns-clause-distinct g c = empty_distinct_nth c.args.buffers.now c.args.at c.index-buffers-at.result c.empty_if.new.self c.requires.within c.empty_if.ensures.page c.requires.distinct

pub returns-clause-blank : goal.returns-clause-blank
returns-clause-blank g c =
    empty_blank_nth (removes g.O.PageRule.shape g.O.PageRule.per_page c.args.removal) c.args.buffers.now c.args.at c.index-buffers-at.result c.empty_if.new.self c.requires.within
    c.empty_if.ensures.page c.empty_if.ensures.changed c.empty_if.ensures.bytes c.requires.blank

pub returns-clause-agree : goal.returns-clause-agree
returns-clause-agree g c pages agree =
    agree_nth pages c.args.buffers.now c.args.at c.index-buffers-at.result c.empty_if.new.self c.requires.within
    (empty_agrees pages (get_or c.args.buffers.now c.args.at c.index-buffers-at.result) c.empty_if.new.self c.empty_if.ensures.page c.empty_if.ensures.changed c.empty_if.ensures.bytes) agree

pub returns-clause-map : goal.returns-clause-map
returns-clause-map g c pages absent =
    empty_map_nth (removes g.O.PageRule.shape g.O.PageRule.per_page c.args.removal) pages c.args.buffers.now c.args.at c.index-buffers-at.result c.empty_if.new.self c.requires.within
    c.empty_if.ensures.page c.empty_if.ensures.bytes c.empty_if.ensures.gone c.requires.distinct c.requires.blank absent
