-- Both records of a schedule are lawful: each writes its mark and two numbers, and reads the two numbers back. Assumes nothing.
use Rattle.std.specs.Prelude.{true, List, [], ◌∷◌, ◌++◌, ◌≡◌, refl, ℕ, ◌≤◌, get_or, length, take}
use Rattle.std.proofs.Common.{◌∙◌}
use Rattle.rows.specs.Round.{begun, listed, listed_front}
use Rattle.rows.specs.Rows.{Lawful, marked}
use Rattle.schedule.specs.Schedule.{event_record, heading, width}

-- Four bytes that begin with a mark are the mark and two bytes more.
four_bytes_lem : (first second : ℕ) (r : List ℕ) → width ≤ length r → marked first second r ≡ true
    → first ∷ second ∷ get_or r 2 0 ∷ get_or r 3 0 ∷ [] ≡ take width r
four_bytes_lem first second r l h = (λ i. begun first second r h i ++ listed 2 2 r) ∙ listed_front width r l

pub heading_lawful : Lawful heading
heading_lawful = record { wide = λ x. refl; begins = λ x r. refl; reads = λ x r h. refl; writes = λ r bytes l h. four_bytes_lem _ _ r l h }

pub event_lawful : Lawful event_record
event_lawful = record { wide = λ x. refl; begins = λ x r. refl; reads = λ x r h. refl; writes = λ r bytes l h. four_bytes_lem _ _ r l h }
