-- What the host sees of a run, from what is had of it. Assumes nothing.
use Prim.Native.Nat.{ℕ}
use mathlib.Core.Path.{◌≡◌, sym, ap, ◌∙◌}
use mathlib.Core.List.{List}
use Rattle.std.specs.Prelude.{Ok, Err}
use Rattle.image.specs.declared.Refusal.{Refusal}
use Rattle.image.specs.Refusal.{refusal_number}
use Rattle.image.proofs.Counted.{counted-now, counted-not}
use Rattle.bus.specs.Run.{RunOutcome, RunResult, run_told}
use Rattle.bus.proofs.Laws.{refusal-some}
use Rattle.troughiron.specs.Host.{OwnRunLeaves, HostRunLeaves}

module _ (left : RunOutcome) (copied : ℕ) (image answers : List ℕ) where
  -- not refused: the bytes copied are written
  pub sees-copied : (bytes : ℕ) → OwnRunLeaves left (run_told (Ok bytes)) image answers → HostRunLeaves left copied 0 image answers bytes
  unfolding run_told
  sees-copied bytes leaves =
      let number : left.result.number ≡ 0 = ap (λ (r : RunResult). r.number) (sym leaves.result-is) in
      record {
        number_is = sym number;
        image-is = leaves.image-is;
        answers-are = leaves.answers-are;
        copied_is = ap (λ (r : RunResult). r.copied) leaves.result-is
            ∙ sym (counted-now left.result.number left.result.copied copied number);
      }

  -- refused: they are not
  pub sees-refused : (refusal : Refusal) → OwnRunLeaves left (run_told (Err refusal)) image answers
      → HostRunLeaves left copied (refusal_number refusal) image answers copied
  unfolding run_told
  sees-refused refusal leaves =
      let number : left.result.number ≡ refusal_number refusal = ap (λ (r : RunResult). r.number) (sym leaves.result-is) in
      record {
        number_is = sym number;
        image-is = leaves.image-is;
        answers-are = leaves.answers-are;
        copied_is = sym (counted-not left.result.number left.result.copied copied (λ z. refusal-some refusal (sym number ∙ z)));
      }
