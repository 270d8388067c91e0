-- What the host sees of a search, from what is had of it. Assumes nothing.
use Prim.Native.Nat.{ℕ}
use mathlib.Core.Path.{◌≡◌, sym, ap, ◌∙◌}
use mathlib.Core.List.{List}
use Rattle.image.proofs.Counted.{counted-now, counted-not}
use Rattle.search.specs.Found.{SearchTold, SearchOutcome}
use Rattle.search_call.specs.Host.{OwnSearchLeaves, HostSearchLeaves}

module _ (left : SearchOutcome) (passes resets slots : ℕ) (found : SearchTold) (codes trace : List ℕ) (finds : OwnSearchLeaves left found codes trace) where
  same : left.found.number ≡ found.number
  same = ap (λ (f : SearchTold). f.number) (sym finds.found-is)

  -- not refused: the counts are written
  pub sees-counts : found.number ≡ 0 → HostSearchLeaves left passes resets slots found.number codes trace found.passes found.resets found.slots
  sees-counts e = record {
    number_is = sym same;
    codes-are = finds.codes-are;
    trace-is = finds.trace-is;
    passes-are = ap (λ (f : SearchTold). f.passes) finds.found-is ∙ sym (counted-now left.found.number left.found.passes passes (same ∙ e));
    resets-are = ap (λ (f : SearchTold). f.resets) finds.found-is ∙ sym (counted-now left.found.number left.found.resets resets (same ∙ e));
    slots-are = ap (λ (f : SearchTold). f.slots) finds.found-is ∙ sym (counted-now left.found.number left.found.slots slots (same ∙ e));
  }

  -- refused: they are not
  pub sees-none : (found.number ≡ 0 → ⊥) → HostSearchLeaves left passes resets slots found.number codes trace passes resets slots
  sees-none h = record {
    number_is = sym same;
    codes-are = finds.codes-are;
    trace-is = finds.trace-is;
    passes-are = sym (counted-not left.found.number left.found.passes passes (λ z. h (sym same ∙ z)));
    resets-are = sym (counted-not left.found.number left.found.resets resets (λ z. h (sym same ∙ z)));
    slots-are = sym (counted-not left.found.number left.found.slots slots (λ z. h (sym same ∙ z)));
  }
