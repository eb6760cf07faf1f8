-- THE PORT'S OWN, which private contracts alone cite: the five passes in one, each sample through all of them in turn. Definitions only.
use Rattle.std.specs.Prelude.{Float}
use Rattle.block.specs.declared.Turn.{Turn}
use Rattle.block.specs.Block.{source}
use Rattle.block.specs.OnePass.{then}
use Rattle.hihat.specs.declared.Hihat.{Hihat}
use Rattle.hihat.specs.declared.Settings.{Settings}
use Rattle.hihat.specs.Hihat.{metallic, set_coloration, colored, clocked, amplified, set_hpf, high_passed}

-- both filters set before the one pass
abbrev pub tuned : Settings → Hihat → Hihat
tuned b self = set_hpf b (set_coloration b self)

-- the first pass is a source, so what stands in the buffer is not read
unfoldable pub step : Settings → Hihat → Float → Turn Hihat
step b = then (then (then (then (source (metallic b)) colored) (clocked b)) (amplified b)) high_passed
