-- The statement of `specs/Examples.antt`, proved. Assumes nothing.
use Rattle.bus.proofs.Shown.{empty-run}
use Rattle.example_laws.specs.Examples.{Examples}
use Rattle.example_laws.proofs.Rows.{rows}
use Rattle.example_laws.proofs.SkipRom.{skip-rom}

pub examples : Examples
examples = record { rows = rows; skip-rom = skip-rom; empty-trace = empty-run }
