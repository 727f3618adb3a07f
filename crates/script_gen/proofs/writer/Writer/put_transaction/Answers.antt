use Rattle.std.proofs.Common.{refl, ◌%◌}
use Rattle.script_gen.proofs.Steps.{on_ok_then, transaction_written}
use Rattle.script_gen.proofs.writer.Writer.put_transaction.Goals as goal

pub returns : goal.returns
returns c =
    let d = c.draw_savepoints-count in
    on_ok_then c.put_end.result
    (transaction_written c.args.number (c.args.number % 4) d.result c.args.self.now c.put_round_end.new.self c.put_plain.new.self c.put_plain-2.new.self d.new.self c.put_savepoints.new.self c.put_look.new.self c.put_end.new.self refl
    c.in_ok-put_round_end.ensures c.in_ok-put_plain.ensures c.in_ok-put_plain-2.ensures d.ensures.count d.ensures.state d.ensures.items c.in_ok-put_savepoints.ensures c.in_ok-put_look.ensures)
    c.put_end.ensures
