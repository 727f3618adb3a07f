use Rattle.std.proofs.Common.{◌≡◌, ◌++◌, ℕ, List, ap, ◌∙◌}
use Rattle.tx_events.specs.Running.{open_ids}
use Rattle.record_rules.proofs.OpenAtEnd.{first_is_top}
use Rattle.record_rules.proofs.transactions.open_xact.Goals as goal

pub returns : goal.returns
returns c =
    let ids : c.push_open.new.ids.items ≡ open_ids c.args.session c.args.replay.now.events =
    c.in_ok-push_open.ensures ∙ ap (λ (t : List ℕ). t ++ open_ids c.args.session c.args.replay.now.events) c.new-ids.ensures.items in
    λ lines a. record {
      ids = ids;
      root = λ top rest is.
          c.begins_with-root.ensures top rest (c.deref.ensures.value ∙ ids ∙ is)
          ∙ first_is_top c.args.replay.now.base c.args.replay.now.events c.args.session c.open_top.result top rest c.events-legal.ensures.legal c.open_top.ensures.some c.open_top.ensures.none is;
      answered = a;
    }
