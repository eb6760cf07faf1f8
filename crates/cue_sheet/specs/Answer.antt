-- What a line of a sheet answers: what it says, or the number of the first question that it does not pass. Definitions only.
use Rattle.std.specs.Prelude.{ℕ, Bool, true, false, Option, Some, None}
use Rattle.refusal.specs.Refusal as Refusal
use Rattle.cue_sheet.specs.declared.answer.SheetRefusal.{SheetRefusal}
use Rattle.cue_sheet.specs.declared.answer.SheetRefusal.TheVariants.{Knobs, FirstLine, CueLine, CueStart, CueCount, BufferLength}

-- the number that a user sees: the knobs' questions have those of the voices
abbrev pub number : SheetRefusal → ℕ
number (Knobs r) = Refusal.number r
number FirstLine = 7
number CueLine = 8
number CueStart = 9
number CueCount = 10
number BufferLength = 11

pub data Told (A : Type 0) : Type 0 where
  says : A → Told A
  refused : ℕ → Told A

infixl 10 ◌>>=◌ ◌>>◌
-- what is asked next: the first question that is not passed decides
abbrev pub ◌>>=◌ : {A B : Type 0} → Told A → (A → Told B) → Told B
says x >>= f = f x
refused n >>= f = refused n

abbrev pub ◌>>◌ : {A B : Type 0} → Told A → Told B → Told B
t >> u = t >>= λ _. u

-- a question with its number
abbrev pub ask : Bool → ℕ → Told (Unit {0})
ask true n = says tt
ask false n = refused n

-- the question whether something can be read, which says what is read
abbrev pub ask_for : {A : Type 0} → Option A → ℕ → Told A
ask_for (Some x) n = says x
ask_for None n = refused n
