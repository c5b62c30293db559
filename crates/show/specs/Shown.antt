-- The page that shows what a script leaves: how the listing was answered, a line for each task of it, and a line for each packet that is
-- not free.
use Rattle.std.specs.Prelude.{ℕ, zero, suc, List, [], ◌++◌, Ok, Err, Result, codes, decimal}
use Rattle.std.specs.Fmt.{signed_decimal}
use Rattle.std.specs.List.{flat_map}
use Rattle.packets.specs.declared.rows.Packet.{Packet}
use Rattle.packets.specs.declared.rows.Place.{Place}
use Rattle.packets.specs.declared.rows.Place.TheVariants.{Free, Hands, Queue}
use Rattle.tables.specs.State.{State, packet}
use Rattle.calls.specs.declared.Refusal.{Refusal}
use Rattle.calls.specs.Numbers.{refusal_number}
use Rattle.listing.specs.declared.Listed.{Listed}
use Rattle.listing.specs.Listed.{list_rows}
use Rattle.kernel.specs.Listing.{list_answer}

-- a blank, a number, and what follows
abbrev pub spaced : ℕ → List ℕ → List ℕ
spaced n more = codes " " ++ (decimal n ++ more)

-- number, priority, state, flags and how many packets are queued
abbrev pub row_line : Listed → List ℕ
row_line r = codes "task" ++ spaced r.task (spaced r.priority (spaced r.state (spaced r.flags (spaced r.queued (codes "\n")))))

-- the refusal, 0 for none; then how many rows there are, and a line for each; a listing that was refused has none
abbrev pub listing_lines : Result ℕ Refusal → List Listed → List ℕ
listing_lines (Ok count) rows = codes "listing 0" ++ spaced count (codes "\n" ++ flat_map row_line rows)
listing_lines (Err why) rows = codes "listing" ++ spaced (refusal_number why) (codes " 0\n")

-- sender, type and two words
abbrev pub fields_text : Packet → List ℕ
fields_text p = codes " " ++ (signed_decimal p.sender ++ spaced p.kind (spaced p.first (spaced p.second (codes "\n"))))

-- number, whose hands or queue it is in, and the other fields; a free packet has no line
abbrev pub line_at : Place → ℕ → Packet → List ℕ
line_at Free n p = []
line_at (Hands t) n p = codes "packet" ++ spaced n (codes " hands" ++ spaced t (fields_text p))
line_at (Queue t) n p = codes "packet" ++ spaced n (codes " queue" ++ spaced t (fields_text p))

abbrev pub packet_line : State → ℕ → List ℕ
packet_line s n = line_at (packet s n).place n (packet s n)

-- the lines of the packets 1 to n
unfoldable pub packet_lines : State → ℕ → List ℕ
packet_lines s zero = []
packet_lines s (suc n) = packet_lines s n ++ packet_line s (suc n)

-- how the tasks of state s are listed into rows that are lent
abbrev pub listing_text : State → List Listed → List ℕ
listing_text s lent = listing_lines (list_answer s lent) (list_rows s)

-- the page of a kernel in state s, whose tasks are listed into such rows
abbrev pub page_text : State → List Listed → List ℕ
page_text s lent = listing_text s lent ++ packet_lines s 64
