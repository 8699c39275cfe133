-- `signing::emit` meets its contract. The oil is the solution that was read, U its list, and the output its packed bytes (`signature-from`).
-- A table that is lent again is as long as it was made: each call keeps its length (`kept`).
use Rattle.std.proofs.Common.{refl, sym, subst, ℕ, ◌+◌, ◌*◌, ◌≤◌, length}
use Rattle.signing.specs.Emitting.{some-l, list-lt, solution-read, oil-read, signature-from}
use native.Mathlib.Omega.{arith}
use Rattle.sets.proofs.Bounds.{bounds_of}
use Rattle.signing.proofs.writing.emit.Goals as goal

pub slice_bounds-read_solution-end : goal.slice_bounds-read_solution-end
slice_bounds-read_solution-end c = refl

pub read_solution-requires : goal.read_solution-requires
read_solution-requires c =
    let n = c.unknowns-n.ensures in (
      omega (arith, n, (bounds_of c.args.set).sizes.unknowns),
      (omega (arith, n, (bounds_of c.args.set).sizes.unknowns), subst (λ (k : ℕ). k * (k + 1) ≤ length c.args.work.now) (sym n) c.requires.output_len.1),
    )

pub slice_bounds-solution_list-end : goal.slice_bounds-solution_list-end
slice_bounds-solution_list-end c = refl

pub slice_bounds-solution_list-end-2 : goal.slice_bounds-solution_list-end-2
slice_bounds-solution_list-end-2 c = sym c.read_solution.auto.oil

pub solution_list-requires : goal.solution_list-requires
solution_list-requires c =
    let b = bounds_of c.args.set in record {
      private_len = c.requires.private_len;
      set_in_bounds = (omega (arith, b.sizes.signature), omega (arith, b.sizes.unknowns, c.read_solution.auto.oil));
      by_index = λ e h. rw
          (solution-read c.args.work.now c.unknowns-n.ensures c.read_solution.ensures e h) (c.requires.by_index e h);
    }

pub slice_bounds-write_output-end : goal.slice_bounds-write_output-end
slice_bounds-write_output-end c = sym c.solution_list.auto.u

pub write_output-requires : goal.write_output-requires
write_output-requires c =
    let b = bounds_of c.args.set in
    let list = c.solution_list.ensures in record {
      output_len = (c.requires.output_len.0, omega (arith, b.sizes.signature, c.solution_list.auto.u));
      by_index = list-lt list (oil-read c.read_solution.new.oil (some-l b)
          (λ e h. rw (solution-read c.args.work.now c.unknowns-n.ensures c.read_solution.ensures e h)
          (c.requires.by_index e h)));
      by_index_2 = list.beyond;
    }

pub returns : goal.returns
returns c =
    signature-from c.args.salt.now c.read_solution.new.oil c.solution_list.ensures
    (solution-read c.args.work.now c.unknowns-n.ensures c.read_solution.ensures) c.write_output.ensures
