-- Strike and run as two calls: a strike and then a run with the same knobs are the Rust's triggered `render`, and a run alone is the untriggered one, for
-- every record, whether calls reach it or not, with `sustain` or without, and every buffer, empty ones included. Definitions only.
use Rattle.std.specs.Prelude.{Float}
use Rattle.refusal.specs.StrikeAndRun.{StrikeAndRun, LastCounts}
use Rattle.hihat.specs.Hihat.{strike, run, render}
use Rattle.hihat.specs.declared.Hihat.{Hihat}
use Rattle.hihat.specs.declared.Knobs.{Knobs}
use Rattle.hihat.specs.declared.VcaType.{VcaType}

abbrev pub StrikeThenRun : Type 0
StrikeThenRun =
    (v : Hihat) (vca_type : VcaType) (k : Knobs)
    → StrikeAndRun v (λ trigger. render v trigger vca_type k) (strike v k.accent k.decay) (λ w. run w vca_type k)

-- a strike takes accent and decay
abbrev pub LastStrikeCounts : Type 0
LastStrikeCounts = LastCounts (λ v (taken : Float × Float). strike v taken.0 taken.1)
