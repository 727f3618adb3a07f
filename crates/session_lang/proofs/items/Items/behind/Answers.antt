use Rattle.std.proofs.Common.{◌-◌, ◌∙◌, ap, arith, drop, length, map, sym}
use Rattle.std.proofs.lemmas.List.{drop-map, length-drop, take_all}
use Rattle.session_lang.specs.Packed.{unpacked}
use Rattle.session_lang.proofs.items.Items.behind.Goals as goal

pub returns : goal.returns
returns c =
    let i = c.self.inside in
    let all = i.packed.now in
    let left = length-drop c.args.count all in
    ap (map (unpacked i.apart.now)) (take_all (length all - c.args.count) (drop c.args.count all) (omega (arith, left)))
    ∙ sym (drop-map (unpacked i.apart.now) c.args.count all)
    ∙ ap (drop c.args.count) c.self.view_is
