-- Worked scripts with the text that they give: a short session, and a script for each question that a record can fail.
use Rattle.std.specs.Prelude.{◌≡◌, ℕ, List, [], ◌∷◌, ◌++◌, pos, Ok, codes}
use Rattle.std.specs.List.{flat_map}
use Rattle.tables.specs.Moves.{fresh}
use Rattle.calls.specs.declared.Call.TheVariants.{Claim, Send, Wait}
use Rattle.history.specs.History.{replies}
use Rattle.player.specs.Played.{creates}
use Rattle.player.specs.Encoded.{marked, record_of, encoded}
use Rattle.player.specs.Printed.{text}

-- claim, send packet 1 to task 1, wait; claim in vain, wait, send it back to task 2, wait
abbrev pub session : List ℕ
session = flat_map encoded (Claim ∷ Send (pos 1) 1 7 0 0 ∷ Wait ∷ Claim ∷ Wait ∷ Send (pos 2) 1 7 0 0 ∷ Wait ∷ [])

-- Both tasks are created, and the session prints its seven lines.
pub record Sample : Type 0 where
  pub created : replies fresh creates ≡ Ok tt ∷ Ok tt ∷ []
  pub prints : text session ≡ codes "8 0 1 2\n10 0 0 2\n12 0 0 1\n8 2 0 1\n12 0 1 1\n10 0 0 2\n12 0 1 2\n"

-- a claim, and then a record that is cut short, has another mark, has a code of no call, or whose spare byte is not 0
pub record BadRecords : Type 0 where
  pub short : text (encoded Claim ++ (0x4B ∷ 0x43 ∷ [])) ≡ codes "8 0 1 2\n0 18 0 2\n"
  pub mark : text (encoded Claim ++ (0 ∷ encoded Claim)) ≡ codes "8 0 1 2\n0 19 0 2\n"
  pub code : text (encoded Claim ++ record_of 11 0 0 0 0 0) ≡ codes "8 0 1 2\n0 20 0 2\n"
  pub spare : text (encoded Claim ++ marked 8 1 (0 ∷ 0 ∷ 0 ∷ 0 ∷ 0 ∷ [])) ≡ codes "8 0 1 2\n0 21 0 2\n"
