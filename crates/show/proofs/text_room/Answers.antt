-- `show::text_room` meets its contract: an array of copies is as long as its type says. Assumes nothing.
use Rattle.std.proofs.Common.{◌≡◌, length, replicate, sym, ℕ}
use Rattle.std.proofs.lemmas.List.{length-replicate}
use Rattle.text.specs.Text.{most_text}
use Rattle.show.proofs.text_room.Goals as goal

-- said of any number, so that the number of bytes is not counted out
room : (n : ℕ) → n ≡ length (replicate {A = ℕ} n 0)
room n = sym (length-replicate n 0)

pub returns : goal.returns
returns c = room most_text
