-- The page at each path.
use Rattle.std.specs.Prelude.{ℕ, List, Option, Some, None, codes, bytes_eq, if◌then◌else◌}
use Rattle.snap_board.specs.declared.page.Page.{Page}
use Rattle.snap_board.specs.declared.page.Page.TheVariants.{Home, Style, Script, Metrics, Health, Live, Ready, Scan}
use Rattle.snap_board.specs.declared.page.Page.TheVariants.{Status, Stats, History}

abbrev pub page_of : List ℕ → Option Page
page_of path =
    if bytes_eq path (codes "/") then Some Home
    else if bytes_eq path (codes "/board.css") then Some Style
    else if bytes_eq path (codes "/board.js") then Some Script
    else if bytes_eq path (codes "/metrics") then Some Metrics
    else if bytes_eq path (codes "/health") then Some Health
    else if bytes_eq path (codes "/livez") then Some Live
    else if bytes_eq path (codes "/readyz") then Some Ready
    else if bytes_eq path (codes "/scan") then Some Scan
    else if bytes_eq path (codes "/status") then Some Status
    else if bytes_eq path (codes "/stats") then Some Stats
    else if bytes_eq path (codes "/history") then Some History
    else None
