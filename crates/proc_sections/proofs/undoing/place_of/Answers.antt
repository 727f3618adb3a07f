use Rattle.std.proofs.Common.{rules, of_calls, nat_lt}
use Rattle.std.proofs.lemmas.Fn.{always_returns_same}
use Rattle.session_levels.proofs.CutLemmas.{are_parted, is_cut}
use Rattle.proc_sections.proofs.undoing.place_of.Goals as goal

pub returns-clause-from : goal.returns-clause-from
returns-clause-from c =
    let xs = c.args.ids.now in
    let point = c.partition_point.ensures.partitioned (λ x. nat_lt x c.args.id) (always_returns_same _ _ _ (λ a r f k. search (rules, of_calls))) (λ i j d l m e. are_parted c.args.id xs c.requires i j d l m e) in
    (is_cut c.args.id xs c.partition_point.result c.partition_point.ensures.bound point.0 point.1).from

pub returns-clause-before : goal.returns-clause-before
returns-clause-before c =
    let xs = c.args.ids.now in
    let point = c.partition_point.ensures.partitioned (λ x. nat_lt x c.args.id) (always_returns_same _ _ _ (λ a r f k. search (rules, of_calls))) (λ i j d l m e. are_parted c.args.id xs c.requires i j d l m e) in
    (is_cut c.args.id xs c.partition_point.result c.partition_point.ensures.bound point.0 point.1).before
