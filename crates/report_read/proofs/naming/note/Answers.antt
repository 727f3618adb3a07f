use Rattle.std.proofs.Common.{◌≡◌, ◌<◌, ◌++◌, ◌∷◌, [], List, ℕ, None, Some, length, sym, ap, ◌∙◌, subst, arith}
use Rattle.tx_events.specs.Names.{IsName}
use Rattle.report_words.specs.Reading.{name_place}
use Rattle.report_words.proofs.Ids.{gives_none}
use Rattle.report_read.specs.Taking.{AreFew}
use Rattle.report_read.proofs.Noting.{few_push, pushed_place}
use Rattle.report_read.proofs.naming.note.Goals as goal

pub returns-clause-few : goal.returns-clause-few
returns-clause-few c =
    let names = c.args.names.now in
    let name = c.args.name.now in
    let none : name_place names name ≡ None = ap (λ n. name_place n name) (sym c.items.ensures) ∙ gives_none c.in-Err-Form.field-0 (name_place c.items.result.now name) c.in-Err-Form.ensures.place c.in-Err-Form.field-0-is in
    let is : IsName name = sym c.is_name.ensures.value ∙ c.if-not-is_name.false in
    let short : length names < 64 = (let e = ap length c.items-count.ensures in let f = c.if-count-ge64.false in omega arith) in
    let grown : c.push.new.self ≡ names ++ name ∷ [] = c.in_ok-push.ensures.ok ∙ ap (λ w. names ++ w ∷ []) c.of.ensures in
    subst (λ (n : List (List ℕ)). AreFew n) (sym grown) (few_push names name c.requires none is short)

pub returns-clause-place : goal.returns-clause-place
returns-clause-place c =
    let names = c.args.names.now in
    let name = c.args.name.now in
    let none : name_place names name ≡ None = ap (λ n. name_place n name) (sym c.items.ensures) ∙ gives_none c.in-Err-Form.field-0 (name_place c.items.result.now name) c.in-Err-Form.ensures.place c.in-Err-Form.field-0-is in
    let grown : c.push.new.self ≡ names ++ name ∷ [] = c.in_ok-push.ensures.ok ∙ ap (λ w. names ++ w ∷ []) c.of.ensures in
    ap (λ n. name_place n name) grown ∙ pushed_place names name none ∙ ap (λ (n : List (List ℕ)). Some (length n)) (sym c.items-count.ensures)
