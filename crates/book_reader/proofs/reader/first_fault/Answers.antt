-- `book_reader::first_fault` meets its contract: the blocks before b are passed, and `before` is the head of the last of them. Rests on Passed.
use Rattle.books.specs.Book.{whole_says}
use Rattle.book_reader.specs.Passed.{passed_none, passed-next, passed-stop, passed-end}
use Rattle.std.proofs.Common.{sym, ap, ◌∙◌, ◌/◌, ◌≤◌, length, rules}
use Rattle.ground.specs.Answers.{number_of}
use Rattle.ground.specs.AnswerLaws.{code-some}
use native.Mathlib.Omega.{arith}
use Rattle.book_reader.proofs.reader.first_fault.Goals as goal

pub loop-b-init : goal.loop-b-init
loop-b-init c = passed_none _ _

pub overflow_cast-b : goal.overflow_cast-b
overflow_cast-b c =
    let few : length c.args.book.now / 512 ≤ 65536 = (whole_says c.args.book.now c.requires).1 in
    omega (arith, few)

pub returns-in_err-fault_of : goal.returns-in_err-fault_of
returns-in_err-fault_of c =
    let refused = sym (ap number_of c.in_err-fault_of.was) ∙ c.fault_of.ensures in
    rw (← passed-stop c.loop-b.invariant (search rules) c.block_at-block.ensures refused (code-some _)) (search rules)

pub loop-b-preserved : goal.loop-b-preserved
loop-b-preserved c =
    passed-next c.loop-b.invariant (search rules) c.block_at-block.ensures c.fault_of.ensures (ap number_of c.in_ok-fault_of.was) c.head_of-before.ensures

pub returns : goal.returns
returns c = passed-end c.loop-b.invariant (search rules)
