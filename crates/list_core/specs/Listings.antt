-- The lines of each list.
use Rattle.std.specs.Prelude.{ℕ, Option, Some, option_map, Result}
use Rattle.word_core.specs.declared.refusal.CoreFault.{CoreFault}
use Rattle.desk_core.specs.Machine.{State}
use Rattle.list_core.specs.BuildList.{build_list}
use Rattle.list_core.specs.CountSheet.{count_sheet}
use Rattle.list_core.specs.FindList.{find_list}
use Rattle.list_core.specs.HistoryList.{history_list, span_of}
use Rattle.list_core.specs.ItemList.{item_list}
use Rattle.list_core.specs.LowList.{low_list}
use Rattle.report_core.specs.Lines.{Gives, Lines}
use Rattle.list_core.specs.NamedReports.{named_report}
use Rattle.list_core.specs.OrderList.{order_list}
use Rattle.list_core.specs.PartList.{part_list}
use Rattle.list_core.specs.PlaceList.{place_list}
use Rattle.list_core.specs.ReceiptSheet.{receipt_sheet}
use Rattle.list_core.specs.ShortageList.{shortage_list}
use Rattle.list_core.specs.StockList.{stock_list}
use Rattle.list_core.specs.Trace.{batch_items, item_roots}
use Rattle.list_core.specs.TraceList.{trace_list}
use Rattle.list_core.specs.declared.walk.Direction.TheVariants.{Forward, Back}
use Rattle.list_core.specs.declared.listing.Listing.{Listing}
use Rattle.list_core.specs.declared.listing.Listing.TheVariants as listing

-- a line with the names of its columns, then its rows; none where there is no such row
abbrev pub listing_lines : Listing → State → Option Lines
listing_lines (listing.Stock low) s = Some (stock_list low s)
listing_lines (listing.At location) s = place_list location s
listing_lines (listing.Part part) s = part_list part s
listing_lines (listing.Item item) s = item_list item s
listing_lines (listing.Orders only_open) s = Some (order_list only_open s)
listing_lines (listing.Builds only_open) s = Some (build_list only_open s)
listing_lines (listing.Find word) s = Some (find_list word.now s)
listing_lines listing.Shortages s = Some (shortage_list s)
listing_lines (listing.TraceBatch batch) s = trace_list Forward s (batch_items batch.now s)
listing_lines (listing.TraceForward item) s = trace_list Forward s (item_roots item s)
listing_lines (listing.TraceBack item) s = trace_list Back s (item_roots item s)
listing_lines (listing.CountSheet location) s = count_sheet location s
listing_lines (listing.ReceiptSheet order) s = receipt_sheet order s
listing_lines (listing.History of days) s = history_list of (span_of days) s
listing_lines (listing.Low levels) s = low_list levels.now s
listing_lines (listing.Report name number) s = named_report name number s

-- what is told is the list's lines; or NoSuch where there is no such row; or it ran out of memory
abbrev pub Lists : State → Listing → Result Lines CoreFault → Type 0
Lists s what result = Gives (listing_lines what s) result
