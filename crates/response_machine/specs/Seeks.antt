-- The place of a field's line in a file and the value in it, as the search finds it. proofs/Seeks proves that this is what `sought` of response_format says.
-- Rests on Machine, and on Fields, Rules and Lent of response_format.
use Rattle.std.specs.Prelude.{◌≡◌, true, take, drop, Some, None, Ok, Err}
use mathlib.Core.List.{List}
use Prim.Native.Nat.{ℕ, ◌+◌, ◌-◌, ◌≤◌}
use Rattle.std.proofs.Math.ListN.{length}
use Rattle.response_format.specs.Fields.{label}
use Rattle.response_format.specs.Rules.{all_digits, paired}
use Rattle.response_format.specs.Lent.{Sought, value, none}
use Rattle.ground.specs.Answers.{code, Answer, number_of}
use Rattle.ground.specs.declared.Refusal.{Refusal}
use Rattle.response_machine.specs.Machine.{Place, nowhere}
use Rattle.response_machine.specs.declared.Span.{Span}

-- what stands in the line after its label
abbrev pub value_between : List ℕ → ℕ → Span → List ℕ
value_between f j s = take (s.to - (s.from + length (label j))) (drop (s.from + length (label j)) f)

-- the place of a line in the file f, and the value in it; or none, and why
pub data Found (f : List ℕ) (j : ℕ) : Place → Sought → Type 0 where
  found : (s : Span) (v : List ℕ) → s.from + length (label j) ≤ s.to → s.to ≤ length f → v ≡ value_between f j s
      → all_digits 16 v ≡ true → paired v ≡ true → Found f j (Ok (Some s)) (value v)
  missing : Found f j (Ok None) (none 0)
  refused : (r : Refusal) → Found f j (Err r) (none (code r))

pub nothing : {f : List ℕ} {j : ℕ} (a : Answer) → Found f j (nowhere a) (none (number_of a))
nothing (Ok x) = missing
nothing (Err r) = refused r

pub record Here (f : List ℕ) (j : ℕ) (s : Span) (w : Sought) : Type 0 where
  pub is : w ≡ value (value_between f j s)
  pub low : s.from + length (label j) ≤ s.to
  pub high : s.to ≤ length f
  pub digits : all_digits 16 (value_between f j s) ≡ true
  pub pairs : paired (value_between f j s) ≡ true
