use Rattle.std.proofs.Common.{Bor, ◌≡◌, ℕ, List, None, sym, ◌∙◌}
use Rattle.report_words.specs.Words.{behind}
use Rattle.report_words.specs.Reading.{number_at, full_id}
use Rattle.report_words.proofs.Ids.{OneId, gives_none, gives_nothing, number_none, id_none, id_some, ids_end, ids_on}
use Rattle.report_words.proofs.list.read_ids.Goals as goal

pub returns-in-Err-clause-ids : goal.returns-in-Err-clause-ids
returns-in-Err-clause-ids c =
    let none : full_id c.in-Ok.number ≡ None = gives_none c.in-Err._unread (full_id c.in-Ok.number) c.in-Err.ensures.value c.in-Err.ensures.form in
    ids_end c.loop-number.ids _ (behind c.loop-number.rest.now) (id_none (behind c.loop-number.rest.now) c.in-Ok.number (behind c.in-Ok.tail.now) c.in-Ok.ensures.value none) c.loop-number.invariant.ids

pub loop-number-preserved : goal.loop-number-preserved
loop-number-preserved c =
    let one : OneId (behind c.loop-number.rest.now) c.in-Ok-full_id.id (behind c.in-Ok.tail.now) = id_some (behind c.loop-number.rest.now) c.in-Ok.number (behind c.in-Ok.tail.now) c.in-Ok-full_id.id c.in-Ok.ensures.value c.in-Ok-full_id.ensures.value in
    record {
      ids = ids_on c.loop-number.ids c.push.new.self _ c.in-Ok-full_id.id (behind c.loop-number.rest.now) (behind c.in-Ok.tail.now) one c.in_ok-push-in-Ok-full_id.ensures.ok c.loop-number.invariant.ids;
      rest = sym one.rest ∙ c.loop-number.invariant.rest;
    }

pub returns-clause-ids : goal.returns-clause-ids
returns-clause-ids c = ids_end c.loop-number.ids _ (behind c.loop-number.rest.now) (number_none (behind c.loop-number.rest.now) (gives_nothing {X = ℕ × Bor (List ℕ)} {Y = ℕ × List (List ℕ)} (λ x. (x.0, behind x.1.now)) c.in_default.field-0 (number_at (behind c.loop-number.rest.now)) c.in_default.ensures.value c.in_default.ensures.form)) c.loop-number.invariant.ids
