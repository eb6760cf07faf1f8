-- A tested player is a lawful one.
use mathlib.Core.Path.{◌≡◌}
use mathlib.Core.Bool.{true}
use Rattle.track.specs.Track.{Player}
use Rattle.track.specs.Lawful.{Lawful, Tested}

pub lawful : {Voice : Type 0} {p : Player Voice} → Tested p → Lawful p
lawful t = record { Ready = λ v. t.ready v ≡ true; init-accepted = t.init-accepted; init_ready = t.init_ready; plays = t.plays; own = t.own }
