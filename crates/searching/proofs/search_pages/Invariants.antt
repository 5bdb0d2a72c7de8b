-- `search_pages` meets its contract: the loops go on with what is left of the search, the table holds the pages seen, and the label is left
-- where a pair is found.
use Rattle.std.proofs.Common.{◌≡◌, [], Ok, length, take}
use Rattle.frontend.specs.Pages.{pages_of}
use Rattle.frontend.specs.Search.{search_from}
use Rattle.frontend.proofs.Searching.{from_reference, from_page}
use Rattle.searching.proofs.search_pages.Given as goal

abbrev pub invariant-loop-j : goal.invariant-loop-j
invariant-loop-j l = record {
  none_found : l.found ≡ Ok tt;
  left : search_from l.grants l.window [] l.references ≡ from_page l.grants l.window l.references l.pages l.page l.i l.j;
}

abbrev pub invariant-search : goal.invariant-search
invariant-search l = record {
  sized : length l.pages ≡ 16;
  none_found : l.found ≡ Ok tt;
  named : take l.i l.pages ≡ pages_of l.grants (take l.i l.references);
  left : search_from l.grants l.window [] l.references ≡ from_reference l.grants l.window l.references l.pages l.i;
}
