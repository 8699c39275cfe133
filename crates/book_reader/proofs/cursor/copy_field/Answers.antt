-- `book_reader::copy_field` meets its contract: 20, or the bytes copied. Rests on Told.
use Rattle.std.proofs.Common.{refl, ◌∙◌, eqb-true}
use Rattle.ground.specs.AnswerLaws.{demand-met}
use Rattle.book_reader.specs.Told.{copy_done}
use Rattle.book_reader.proofs.cursor.copy_field.Goals as goal

pub copy_parts-requires : goal.copy_parts-requires
copy_parts-requires c = eqb-true _ _ (demand-met _ _ c.demand.ensures c.in_ok-demand.was) ∙ c.field_size.ensures

pub returns : goal.returns
returns c =
    let at = c.args in
    copy_done at.book.now at.b at.output.now refl (eqb-true _ _ (demand-met _ _ c.demand.ensures c.in_ok-demand.was) ∙ c.field_size.ensures) c.copy_parts.ensures
